-- What the exported operations hand back (RULES 10.4 and 10.5). Assumes nothing.
use Rattle.std.specs.Prelude.{ℕ, List}
use Rattle.image.specs.declared.Section.{Section}
use Rattle.image.specs.declared.Layout.{Layout}
use Rattle.image.specs.Check.{Checked, refused, good}
use Rattle.states.specs.declared.Numbers.{Numbers}
use Rattle.states.specs.Numbers.{numbers_in}
use Rattle.tag.specs.Result.{Left}
use Rattle.capi.specs.declared.Told.{Told}
use Rattle.capi.specs.declared.Place.{Place}
use Rattle.capi.specs.declared.Sheet.{Sheet}

-- what an exported call left, its session by its numbers
abbrev pub told : Told → List ℕ → List ℕ → Left Numbers
told o image room =
    let v = numbers_in o.session in
    record { number = o.answer; session = v; reply = o.reply; stores = o.stores; value = o.value; image = image; room = room }

abbrev pub place_from : Section → Place
place_from s = record { at = s.at; words = s.words }

abbrev pub nowhere : Place
nowhere = record { at = 0; words = 0 }

abbrev pub refused_sheet : ℕ → Sheet
refused_sheet n =
    record {
      answer = n;
      block = 0;
      status = nowhere;
      reserved = nowhere;
      epc = nowhere;
      tid = nowhere;
      user = nowhere;
      perma = nowhere;
      work = nowhere;
    }

abbrev pub layout_sheet : Layout → Sheet
layout_sheet y =
    record {
      answer = 0;
      block = y.block;
      status = place_from y.status;
      reserved = place_from y.reserved;
      epc = place_from y.epc;
      tid = place_from y.tid;
      user = place_from y.user;
      perma = place_from y.perma;
      work = place_from y.work;
    }

-- THE SHEET of what the check answers: a refusal has no layout
abbrev pub sheet_of : Checked → Sheet
sheet_of (refused n) = refused_sheet n
sheet_of (good y) = layout_sheet y
