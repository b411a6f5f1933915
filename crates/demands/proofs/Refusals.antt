-- When a frame is refused: each line of the refusals is a row of the table with the rows before it excluded. Assumes nothing.
use Rattle.std.specs.Prelude.{Option, None, Some}
use Prim.Native.Nat.{ℕ, zero, suc, ◌+◌, ◌-◌, ◌*◌, ◌/◌, ◌%◌, ◌≤◌, ◌<◌}
use mathlib.Core.Path.{◌≡◌, refl, sym, ap, ap₂, ◌∙◌, subst}
use mathlib.Core.Logic.{◌≢◌, ◌⊎◌, inl, inr}
use mathlib.Core.Bool.{Bool, true, false, cond, not, ◌&&◌, ◌||◌}
use mathlib.Core.List.{List, [], ◌∷◌, ◌++◌}
use native.Mathlib.Omega.{arith}
use lib.Bits.{bit_xor}
use lib.Dec.{eqb, ltb}
use lib.ListN.{length, drop}
use borrow.Author.Tests.{ltb-false, eqb-true, eqb-false, eq-eqb, ne_eqb, le-ltb, lt-ltb}
use Rattle.bits.specs.Bits.{field_at}
use Rattle.bits.specs.First.{first}
use Rattle.image.specs.declared.Layout.{Layout}
use Rattle.image.specs.Layout.{layout_of, pairs_in}
use Rattle.image.specs.Content.{count_in}
use Rattle.image.specs.Check.{check_of, refused, good, image_rows}
use Rattle.image.specs.Steps.{short, header_wrong, content_broken}
use Rattle.image.proofs.Answers.{check-good, check-0}
use Rattle.frames.specs.declared.Span.{Span}
use Rattle.frames.specs.declared.Round.{Round}
use Rattle.frames.specs.declared.Choice.{Choice}
use Rattle.frames.specs.declared.Command.{Command}
use Rattle.frames.specs.declared.Order.{Order}
use Rattle.frames.specs.declared.Order.TheVariants as order
use Rattle.frames.specs.Message.{Message}
use Rattle.frames.specs.Message as heard
use Rattle.frames.specs.Frames.{span, heard_of}
use Rattle.frames.proofs.Orders.{said-small}
use Rattle.replies.specs.declared.Reply.{Reply}
use Rattle.replies.specs.declared.Reply.TheVariants as reply
use Rattle.replies.specs.Replies.{reply_bits, reply_length}
use Rattle.replies.specs.Pack.{packed}
use Rattle.rights.specs.Rights.{Code}
use Rattle.std.specs.Prelude.{Ok, Err}
use Rattle.rights.specs.declared.Fault.{Fault}
use Rattle.rights.specs.declared.Fault.TheVariants as fault
use Rattle.rights.specs.Rights.{read_code, write_code, lock_code, perma_read_code, perma_code, fault_number}
use Rattle.stores.specs.Stores.{change_stores}
use Rattle.states.specs.declared.Half.{Half}
use Rattle.states.specs.declared.Half.TheVariants as half
use Rattle.states.specs.declared.Link.{Link}
use Rattle.states.specs.declared.Part.{Part}
use Rattle.states.specs.declared.Part.TheVariants as part
use Rattle.states.specs.declared.Asks.{Asks}
use Rattle.states.specs.declared.Who.{Who}
use Rattle.states.specs.declared.Who.TheVariants as who
use Rattle.states.specs.Commands as wide
use Rattle.states.proofs.Gates.{Named}
use Rattle.states.specs.declared.State.{State}
use Rattle.states.specs.declared.State.TheVariants as state
use Rattle.tag.specs.declared.Session.{Session}
use Rattle.tag.specs.Session.{off_session}
use Rattle.tag.specs.Result.{Result, leaves, lost}
use Rattle.states.specs.Commands.{bad_choice, bad_up_dn, is_killed, asks_of, link_of, is_covered, uncovered, wrong_by, zero_kill, kill_word, halves_row, halves_of, used, fallen}
use Rattle.states.specs.Steps.{wrong_command}
use Rattle.plans.specs.Effects.{Scene, Effect, effect_of}
use Rattle.tag.specs.Table.{Input, halves, effect, is_error, reply_or, reply_of, fits, everything, frame_of, live_of, is_off, refused_by, command_in, command, scene}
use Rattle.tag.specs.Power.{power_up_of}
use Rattle.tag.specs.Port.{bad_count, bad_data, refusals, port_words, ask_of, release_of, register_of, read_of, write_of}
use Rattle.demands.specs.Calls.{Call, asked, power_up, ask, read, write, Aside, awake, answer_of, Idle}
use Rattle.demands.specs.Facts.{Slotted, Singled, InRound, Takeable}
use Rattle.demands.specs.Facts as facts
use Rattle.demands.specs.Commands.{Air, answers_to, linked, link, Says}
use Rattle.demands.proofs.Rows.{Rows, Reaches, row_at, first-at}
use Rattle.demands.proofs.Codes.{or_right, and-false}
use Rattle.demands.proofs.Commands.{needs_secured}
use Rattle.demands.proofs.Short.{short as too_short}
use Rattle.demands.proofs.Codes as codes
use Rattle.demands.proofs.Rounds.{slotted-session, singled-session}
use Rattle.demands.specs.Refusals.{stays, drops, errs, Covered, Addressed, Needs, Other, Waits, Brings, OutOfPlace, Dropped, Errors, Locks, NoImageRefused, BadCount, TransferRefused, PortRefused, Refusals}
use Rattle.tag.specs.Steps.{input}

-- what an order asks, field by field
abbrev asks : Who → Bool → Bool → Part → Asks
asks who cover bad part = record { who = who; cover = cover; bad = bad; part = part }

-- an image that is not good: its number's row, whatever comes after
image-first : (m : List ℕ) (leaving : ℕ → Result) (more : Rows) (last : Result) (n : ℕ) → check_of m ≡ refused n → first (image_rows leaving m ++ more) last ≡ leaving n
unfolding check_of
image-first m leaving more last n e = go (short m) (header_wrong m) (content_broken m) refl refl refl e
  where
    go : (x y z : Bool) → short m ≡ x → header_wrong m ≡ y → content_broken m ≡ z
        → cond x (refused 1) (cond y (refused 2) (cond z (refused 3) (good (layout_of m)))) ≡ refused n
        → first (image_rows leaving m ++ more) last ≡ leaving n
    go true y z p q r e = let i : 1 ≡ n = cc in rw (p, ← i)
    go false true z p q r e = let i : 2 ≡ n = cc in rw (p, q, ← i)
    go false false true p q r e = let i : 3 ≡ n = cc in rw (p, q, r, ← i)
    go false false false p q r e = absurd (let z : ◌≡◌ {A = ℕ} 0 1 = cc in omega arith)

-- what a frame comes to where no row holds
last : Input → Result
last i = (frame_of change_stores i).done

-- an image that is not good, or a session that no frame is heard with
module _ (a : Air) where
  handed-to : Session → Input
  handed-to s = input s a.image a.frame a.bits a.fresh a.room a.power

  bad_image : (s : Session) (n : ℕ) → check_of a.image ≡ refused n → answers_to answer_of a s ≡ stays n a s
  unfolding frame_of handed-to last
  bad_image s n e = image-first a.image (everything (handed-to s)) (drop 3 (frame_of change_stores (handed-to s)).rows) (last (handed-to s)) n e

  off : (y : Layout) → check_of a.image ≡ good y → answers_to answer_of a off_session ≡ stays 5 a off_session
  unfolding frame_of
  off y e = let c = check-0 a.image y (sym e) in rw (c.0, c.1, c.2)

  pends : (y : Layout) (s : Session) → check_of a.image ≡ good y → count_in y a.image ≢ 0 → answers_to answer_of a s ≡ stays 5 a s
  unfolding frame_of handed-to last
  pends y s e n =
      let c = check-0 a.image y (sym e) in
      let d : count_in (layout_of a.image) a.image ≢ 0 = subst (λ (z : Layout). count_in z a.image ≢ 0) (check-good a.image y e).layout n in
      first-at 3 (frame_of change_stores (handed-to s)).rows (last (handed-to s)) (
        c.0,
        (
          c.1,
          (
            c.2,
            ap (λ (b : Bool). is_off s.power || not b) (ne_eqb (count_in (layout_of a.image) a.image) 0 d) ∙ or_right (is_off s.power) true refl,
          ),
        ),
      )

  held : (y : Layout) (st : State) (r : Aside) → Idle y a.image → answers_to answer_of a (awake st true r) ≡ stays 6 a (awake st true r)
  unfolding frame_of
  held y st r idle =
      let c = check-0 a.image y (sym idle.sound) in
      let z : count_in (layout_of a.image) a.image ≡ 0 = subst (λ (x : Layout). count_in x a.image ≡ 0) (check-good a.image y idle.sound).layout idle.nothing in
      rw (c.0, c.1, c.2, eq-eqb (count_in (layout_of a.image) a.image) 0 z)

-- a free port on a good image with nothing pending: the rows from 7 on
module _ (y : Layout) (a : Air) (st : State) (r : Aside) (idle : Idle y a.image) where
  handed : Input
  handed = input (awake st false r) a.image a.frame a.bits a.fresh a.room a.power

  -- rows 1, 2, 3, 5 and 6 don't hold
  ready : (k : ℕ) (more : Rows) → Reaches k more
      → Reaches (suc (suc (suc (suc (suc k)))))
      (image_rows (everything handed) a.image
      ++ (everything handed 5, not (eqb (count_in (layout_of a.image) a.image) 0))
      ∷ (everything handed 6, false)
      ∷ more)
  ready k more h =
      let c = check-0 a.image y (sym idle.sound) in
      let z : count_in (layout_of a.image) a.image ≡ 0 = subst (λ (x : Layout). count_in x a.image ≡ 0) (check-good a.image y idle.sound).layout idle.nothing in
      (c.0, (c.1, (c.2, (ap not (eq-eqb (count_in (layout_of a.image) a.image) 0 z), (refl, h)))))

  -- the rows from 7 on: 7, 8, 9, 12, 14, and 10
  row-7 : heard_of a.frame a.bits ≡ heard.refused 7 → answers_to answer_of a (awake st false r) ≡ stays 7 a (awake st false r)
  unfolding frame_of handed last
  row-7 h = first-at 5 (frame_of change_stores handed).rows (last handed) (ready 0 (drop 5 (frame_of change_stores handed).rows) (ap (refused_by 7) h))

  row-8 : heard_of a.frame a.bits ≡ heard.refused 8 → answers_to answer_of a (awake st false r) ≡ stays 8 a (awake st false r)
  unfolding frame_of handed last
  row-8 h = first-at 6 (frame_of change_stores handed).rows (last handed) (ready 1 (drop 5 (frame_of change_stores handed).rows) (ap (refused_by 7) h, ap (refused_by 8) h))

  module _ (c : Command) (h : heard_of a.frame a.bits ≡ heard.said c) where
    wrong-is : wrong_command st (command handed) ≡ wrong_command st c
    unfolding handed
    wrong-is = ap (λ (x : Message). wrong_command st (command_in x)) h

    halves-is : halves handed ≡ halves_of (layout_of a.image) a.image st c.order
    unfolding handed
    halves-is = ap (λ (x : Message). halves_of (layout_of a.image) a.image st (command_in x).order) h

    row-9 : wrong_command st c ≡ true → answers_to answer_of a (awake st false r) ≡ stays 9 a (awake st false r)
    unfolding frame_of handed last
    row-9 e =
        first-at 7 (frame_of change_stores handed).rows (last handed)
        (ready 2 (drop 5 (frame_of change_stores handed).rows) (ap (refused_by 7) h, (ap (refused_by 8) h, wrong-is ∙ e)))

    -- the halves say k, and so not n
    halves-not : (n k : ℕ) → halves_of (layout_of a.image) a.image st c.order ≡ k → eqb k n ≡ false → eqb (halves handed) n ≡ false
    halves-not n k e f = ap (λ (x : ℕ). eqb x n) (halves-is ∙ e) ∙ f

    -- 12, or 14 where they are broken
    row-halves : (broken : Bool) → wrong_command st c ≡ false → halves_of (layout_of a.image) a.image st c.order ≡ cond broken 14 12
        → answers_to answer_of a (awake st false r) ≡ leaves (cond broken 14 12) (awake (fallen st) false r) a.image a.room
    unfolding frame_of handed last
    row-halves false w e =
        first-at 8 (frame_of change_stores handed).rows (last handed)
        (ready 3 (drop 5 (frame_of change_stores handed).rows) (ap (refused_by 7) h, (ap (refused_by 8) h, (wrong-is ∙ w, ap (λ (x : ℕ). eqb x 12) (halves-is ∙ e)))))
    row-halves true w e =
        first-at 9 (frame_of change_stores handed).rows (last handed)
        (ready 4 (drop 5 (frame_of change_stores handed).rows) (ap (refused_by 7) h, (ap (refused_by 8) h, (wrong-is ∙ w, (halves-not 12 14 e refl, ap (λ (x : ℕ). eqb x 14) (halves-is ∙ e))))))

    replied-as : Reply → Result
    replied-as z =
        record {
          number = 10;
          session = awake (used st) false r;
          reply = reply_length z;
          stores = 0;
          value = 0;
          image = a.image;
          room = packed (reply_bits a.image z) a.room;
        }

    row-10 : (e : Fault) → wrong_command st c ≡ false → halves_of (layout_of a.image) a.image st c.order ≡ 0
        → (effect_of (scene handed) c.order).code ≡ Err e → 6 ≤ length a.room
        → answers_to answer_of a (awake st false r) ≡ replied-as (reply.Error (fault_number e) (link_of st).handle)
    unfolding frame_of handed last replied-as
    row-10 e w b d l =
        let code_is : (effect handed).code ≡ Err e = ap (λ (x : Message). (effect_of (scene handed) (command_in x).order).code) h ∙ d in
        let reply-is : reply_of handed ≡ reply.Error (fault_number e) (link_of st).handle = ap (λ (q : Code). reply_or q (link_of st).handle (effect handed).reply) code_is in
        first-at 10 (frame_of change_stores handed).rows (last handed)
        (ready 5 (drop 5 (frame_of change_stores handed).rows) (
          ap (refused_by 7) h,
          (
            ap (refused_by 8) h,
            (
              wrong-is ∙ w,
              (
                halves-not 12 0 b refl,
                (
                  halves-not 14 0 b refl,
                  ap₂ (λ (q : Code) (z : Reply). is_error q && fits z a.room) code_is reply-is ∙ ap not (le-ltb (length a.room) 6 l),
                ),
              ),
            ),
          ),
        ))
        ∙ ap replied-as reply-is

-- what it lacks, or that it has it all
data Lacks (q : Bool) (c : Option ℕ) (a : Asks) : Type 0 where
  insecure : q ≡ false → needs_secured a.who ≡ true → Lacks q c a
  naked : a.cover && not (is_covered c) ≡ true → Lacks q c a
  empty : a.bad ≡ true → Lacks q c a

record Has (q : Bool) (c : Option ℕ) (a : Asks) : Type 0 where
  secured : not q && needs_secured a.who ≡ false
  covered : a.cover && not (is_covered c) ≡ false
  whole : a.bad ≡ false

not_so : (q : Bool) → (q ≡ true → ⊥) → q ≡ false
not_so true f = absurd (f refl)
not_so false f = refl

bare : (c : Option ℕ) → (Covered c → ⊥) → not (is_covered c) ≡ true
bare None f = refl
bare (Some n) f = absurd (f tt)

dressed : (c : Option ℕ) → Covered c → not (is_covered c) ≡ false
dressed None f = absurd f
dressed (Some n) f = refl

none : (k : ℕ) → (1 ≤ k → ⊥) → eqb k 0 ≡ true
none zero f = refl
none (suc k) f = absurd (f (omega arith))

some : (k : ℕ) → 1 ≤ k → eqb k 0 ≡ false
some k l = ne_eqb k 0 (omega arith)

perma-lacks : (q : Bool) (c : Option ℕ) (rfu k : ℕ) (p : Part) → ((q ≡ true) × (rfu ≡ 0) × (1 ≤ k) → ⊥) → Lacks q c (asks who.Secured false (not (eqb rfu 0) || eqb k 0) p)
perma-lacks false c rfu k p f = insecure refl refl
perma-lacks true c zero k p f = empty (none k (λ l. f (refl, refl, l)))
perma-lacks true c (suc rfu) k p f = empty (ap (λ (b : Bool). not b || eqb k 0) (ne_eqb (suc rfu) 0 (omega arith)))

lacks : (o : Order) (q : Bool) (c : Option ℕ) → (Needs q c o → ⊥) → Lacks q c (asks_of o)
lacks (order.QueryRep k) q c f = absurd (f tt)
lacks (order.Ack k) q c f = absurd (f tt)
lacks (order.Query sel t x) q c f = absurd (f tt)
lacks (order.QueryAdjust k u) q c f = absurd (f tt)
lacks (order.Select x p) q c f = absurd (f tt)
lacks order.Nak q c f = absurd (f tt)
lacks order.ReqRn q c f = absurd (f tt)
lacks (order.Read s) q c f = absurd (f tt)
lacks (order.Write s w) q c f = naked (bare c f)
lacks (order.Kill w) q c f = naked (bare c f)
lacks (order.Lock mask action) q c f = insecure (not_so q f) refl
lacks (order.Access w) q c f = naked (bare c f)
lacks (order.BlockWrite s at) q c f = empty (none s.count f)
lacks (order.BlockErase s) q c f = empty (none s.count f)
lacks (order.ReadPermalock rfu s) q c f = perma-lacks q c rfu s.count part.Other f
lacks (order.Permalock rfu s at) q c f = perma-lacks q c rfu s.count part.Other f

perma-has : (q : Bool) (c : Option ℕ) (rfu k : ℕ) (p : Part) → (q ≡ true) × (rfu ≡ 0) × (1 ≤ k) → Has q c (asks who.Secured false (not (eqb rfu 0) || eqb k 0) p)
perma-has q c rfu k p f =
    record {
      secured = ap (λ (b : Bool). not b && true) f.0;
      covered = refl;
      whole = ap₂ (λ (a b : Bool). not a || b) (eq-eqb rfu 0 f.1) (some k f.2);
    }

and-nothing : (q : Bool) → not q && false ≡ false
and-nothing q = and-false (not q)

has : (o : Order) (q : Bool) (c : Option ℕ) → Addressed o → Needs q c o → Has q c (asks_of o)
has (order.QueryRep k) q c d f = absurd d
has (order.Ack k) q c d f = absurd d
has (order.Query sel t x) q c d f = absurd d
has (order.QueryAdjust k u) q c d f = absurd d
has (order.Select x p) q c d f = absurd d
has order.Nak q c d f = absurd d
has order.ReqRn q c d f = record { secured = and-nothing q; covered = refl; whole = refl }
has (order.Read s) q c d f = record { secured = and-nothing q; covered = refl; whole = refl }
has (order.Write s w) q c d f = record { secured = and-nothing q; covered = dressed c f; whole = refl }
has (order.Kill w) q c d f = record { secured = and-nothing q; covered = dressed c f; whole = refl }
has (order.Lock mask action) q c d f = record { secured = ap (λ (b : Bool). not b && true) f; covered = refl; whole = refl }
has (order.Access w) q c d f = record { secured = and-nothing q; covered = dressed c f; whole = refl }
has (order.BlockWrite s at) q c d f = record { secured = and-nothing q; covered = refl; whole = some s.count f }
has (order.BlockErase s) q c d f = record { secured = and-nothing q; covered = refl; whole = some s.count f }
has (order.ReadPermalock rfu s) q c d f = perma-has q c rfu s.count part.Other f
has (order.Permalock rfu s at) q c d f = perma-has q c rfu s.count part.Other f

-- so it is wrong, or not
or-middle : (x y z : Bool) → y ≡ true → x || y || z ≡ true
or-middle x y z e = ap (λ (b : Bool). b || z) (or_right x y e)

-- an order to a tag with its number
numbered-order : (o : Order) → Addressed o → Named (asks_of o).who
numbered-order (order.QueryRep k) d = absurd d
numbered-order (order.Ack k) d = absurd d
numbered-order (order.Query sel t x) d = absurd d
numbered-order (order.QueryAdjust k u) d = absurd d
numbered-order (order.Select x p) d = absurd d
numbered-order order.Nak d = absurd d
numbered-order order.ReqRn d = tt
numbered-order (order.Read s) d = tt
numbered-order (order.Write s w) d = tt
numbered-order (order.Kill w) d = tt
numbered-order (order.Lock mask action) d = tt
numbered-order (order.Access w) d = tt
numbered-order (order.BlockWrite s at) d = tt
numbered-order (order.BlockErase s) d = tt
numbered-order (order.ReadPermalock rfu s) d = tt
numbered-order (order.Permalock rfu s at) d = tt

module _ (rd : Round) (h : ℕ) (c : Option ℕ) (p : Option Half) where
  hears-so : (w : Who) (q : Bool) (n : ℕ) → Named w → wide.hears w (linked q (link rd h c p)) n ≡ not (not q && needs_secured w) && eqb h n
  hears-so who.Everyone q n d = absurd d
  hears-so who.InRound q n d = absurd d
  hears-so (who.InSession k) q n d = absurd d
  hears-so who.Replied q n d = absurd d
  hears-so who.Acknowledged true n d = refl
  hears-so who.Acknowledged false n d = refl
  hears-so who.Linked true n d = refl
  hears-so who.Linked false n d = refl
  hears-so who.Secured true n d = refl
  hears-so who.Secured false n d = refl

  -- by what is heard
  wrong-by : (q : Bool) (n : ℕ) (a : Asks) (t : Bool) → wide.hears a.who (linked q (link rd h c p)) n ≡ t
      → wrong_by (linked q (link rd h c p)) n a ≡ not t || (a.cover && not (is_covered c)) || a.bad
  wrong-by true n a t e = ap (λ (b : Bool). not b || (a.cover && not (is_covered c)) || a.bad) e
  wrong-by false n a t e = ap (λ (b : Bool). not b || (a.cover && not (is_covered c)) || a.bad) e

  lacks-wrong : (q : Bool) (n : ℕ) (a : Asks) → Named a.who → Lacks q c a → wrong_by (linked q (link rd h c p)) n a ≡ true
  lacks-wrong q n a d (insecure e s) =
      wrong-by q n a false (hears-so a.who q n d ∙ ap₂ (λ (x z : Bool). not (not x && z) && eqb h n) e s)
  lacks-wrong q n a d (naked e) =
      wrong-by q n a (wide.hears a.who (linked q (link rd h c p)) n) refl ∙ or-middle (not (wide.hears a.who (linked q (link rd h c p)) n)) (a.cover && not (is_covered c)) a.bad e
  lacks-wrong q n a d (empty e) =
      wrong-by q n a (wide.hears a.who (linked q (link rd h c p)) n) refl ∙ or_right (not (wide.hears a.who (linked q (link rd h c p)) n) || (a.cover && not (is_covered c))) a.bad e

  other-wrong : (q : Bool) (n : ℕ) (a : Asks) → Named a.who → n ≢ h → wrong_by (linked q (link rd h c p)) n a ≡ true
  other-wrong q n a d f =
      wrong-by q n a false
      (hears-so a.who q n d ∙ ap (λ (b : Bool). not (not q && needs_secured a.who) && b) (ne_eqb h n (λ e. f (sym e))) ∙ and-false (not (not q && needs_secured a.who)))

  has_right : (q : Bool) (a : Asks) → Named a.who → Has q c a → wrong_by (linked q (link rd h c p)) h a ≡ false
  has_right q a d f =
      wrong-by q h a true (hears-so a.who q h d ∙ ap₂ (λ (x z : Bool). not x && z) f.secured (eq-eqb h h refl))
      ∙ ap₂ (λ (x z : Bool). x || z) f.covered f.whole

-- in Ready, Arbitrate, Reply, Acknowledged and Killed
ready-wrong : (n : ℕ) (o : Order) → ((sel t : ℕ) (x : Round) → o ≢ order.Query sel t x) → ((x : Choice) (p : ℕ) → o ≢ order.Select x p) → wrong_by state.Ready n (asks_of o) ≡ true
ready-wrong n (order.QueryRep k) d e = refl
ready-wrong n (order.Ack k) d e = refl
ready-wrong n (order.Query sel t x) d e = absurd (d sel t x refl)
ready-wrong n (order.QueryAdjust k u) d e = refl
ready-wrong n (order.Select x p) d e = absurd (e x p refl)
ready-wrong n order.Nak d e = refl
ready-wrong n order.ReqRn d e = refl
ready-wrong n (order.Read s) d e = refl
ready-wrong n (order.Write s w) d e = refl
ready-wrong n (order.Kill w) d e = refl
ready-wrong n (order.Lock mask action) d e = refl
ready-wrong n (order.Access w) d e = refl
ready-wrong n (order.BlockWrite s at) d e = refl
ready-wrong n (order.BlockErase s) d e = refl
ready-wrong n (order.ReadPermalock rfu s) d e = refl
ready-wrong n (order.Permalock rfu s at) d e = refl

early-hears : (w : Who) (st : State) (rd : Round) (slot n : ℕ) → Slotted st rd slot → Named w → wide.hears w st n ≡ false
early-hears who.Everyone st rd slot n x d = absurd d
early-hears who.InRound st rd slot n x d = absurd d
early-hears (who.InSession k) st rd slot n x d = absurd d
early-hears who.Replied st rd slot n x d = absurd d
early-hears who.Acknowledged st rd slot n (facts.arbitrate q k) d = refl
early-hears who.Acknowledged st rd slot n (facts.reply q k) d = refl
early-hears who.Linked st rd slot n (facts.arbitrate q k) d = refl
early-hears who.Linked st rd slot n (facts.reply q k) d = refl
early-hears who.Secured st rd slot n (facts.arbitrate q k) d = refl
early-hears who.Secured st rd slot n (facts.reply q k) d = refl

killed-hears : (w : Who) (n : ℕ) → wide.hears w state.Killed n ≡ false
killed-hears who.Everyone n = refl
killed-hears who.InRound n = refl
killed-hears (who.InSession k) n = refl
killed-hears who.Replied n = refl
killed-hears who.Acknowledged n = refl
killed-hears who.Linked n = refl
killed-hears who.Secured n = refl

abbrev takes_number : Who → Bool
takes_number who.Everyone = false
takes_number who.InRound = false
takes_number (who.InSession k) = false
takes_number who.Replied = false
takes_number who.Acknowledged = true
takes_number who.Linked = false
takes_number who.Secured = false

number-hears : (w : Who) (rd : Round) (m n : ℕ) → Named w → wide.hears w (state.Acknowledged rd m) n ≡ takes_number w && eqb m n
number-hears who.Everyone rd m n d = absurd d
number-hears who.InRound rd m n d = absurd d
number-hears (who.InSession k) rd m n d = absurd d
number-hears who.Replied rd m n d = absurd d
number-hears who.Acknowledged rd m n d = refl
number-hears who.Linked rd m n d = refl
number-hears who.Secured rd m n d = refl

-- a round's session
session-hears : (st : State) (rd : Round) (k n : ℕ) → InRound st rd → k ≢ rd.session → wide.hears (who.InSession k) st n ≡ false
session-hears st rd k n x d = is x ∙ ne_eqb rd.session k (λ e. d (sym e))
  where
    is : InRound st rd → wide.hears (who.InSession k) st n ≡ eqb rd.session k
    is (inl y) = slotted-session st rd y.0 k n y.1
    is (inr y) = singled-session st rd k n y

no-up-down : (u : ℕ) → u ≢ 6 → u ≢ 0 → u ≢ 3 → bad_up_dn u ≡ true
no-up-down u a b c = rw (ne_eqb u 6 a, ne_eqb u 0 b, ne_eqb u 3 c)

untaken : (x : Choice) → (Takeable x → ⊥) → bad_choice x ≡ true
untaken x d = go (ltb 4 x.target) (eqb x.bits.bank 0) (eqb x.truncate 0) refl refl refl
  where
    go : (s t u : Bool) → ltb 4 x.target ≡ s → eqb x.bits.bank 0 ≡ t → eqb x.truncate 0 ≡ u → s || t || not u ≡ true
    go true t u a b c = refl
    go false true u a b c = refl
    go false false false a b c = refl
    go false false true a b c = absurd (d (ltb-false 4 x.target a, eqb-false x.bits.bank 0 b, eqb-true x.truncate 0 c))

-- the frame's refusals, line by line; the layout is the image's
module _ (a : Air) (r : Aside) (rd : Round) (idle : Idle (layout_of a.image) a.image) where
  says-9 : (st : State) (n : ℕ) (o : Order) → Says a n o → wrong_by st n (asks_of o) ≡ true → answers_to answer_of a (awake st false r) ≡ stays 9 a (awake st false r)
  says-9 st n o s e = row-9 (layout_of a.image) a st r idle (record { number = n; order = o }) s e

  early : (o : Order) → o ≢ order.ReqRn → takes_number (asks_of o).who ≡ false
  early (order.QueryRep k) d = refl
  early (order.Ack k) d = refl
  early (order.Query sel t x) d = refl
  early (order.QueryAdjust k u) d = refl
  early (order.Select x p) d = refl
  early order.Nak d = refl
  early order.ReqRn d = absurd (d refl)
  early (order.Read s) d = refl
  early (order.Write s w) d = refl
  early (order.Kill w) d = refl
  early (order.Lock mask action) d = refl
  early (order.Access w) d = refl
  early (order.BlockWrite s at) d = refl
  early (order.BlockErase s) d = refl
  early (order.ReadPermalock rfu s) d = refl
  early (order.Permalock rfu s at) d = refl

  unheard : (st : State) (n : ℕ) (o : Order) → wide.hears (asks_of o).who st n ≡ false → wrong_by st n (asks_of o) ≡ true
  unheard st n o e = ap (λ (b : Bool). not b || ((asks_of o).cover && not (is_covered (link_of st).cover)) || (asks_of o).bad) e

  not-heard : (m n : ℕ) (o : Order) → (n ≢ m) ⊎ (o ≢ order.ReqRn) → takes_number (asks_of o).who && eqb m n ≡ false
  not-heard m n o (inl d) = ap (λ (b : Bool). takes_number (asks_of o).who && b) (ne_eqb m n (λ e. d (sym e))) ∙ and-false (takes_number (asks_of o).who)
  not-heard m n o (inr d) = ap (λ (b : Bool). b && eqb m n) (early o d)

  bad-wrong : (st : State) (n : ℕ) (o : Order) → (asks_of o).bad ≡ true → wrong_by st n (asks_of o) ≡ true
  bad-wrong st n o e = or_right (not (wide.hears (asks_of o).who st n) || ((asks_of o).cover && not (is_covered (link_of st).cover))) (asks_of o).bad e

  wrongs : OutOfPlace answer_of a r rd
  wrongs =
      record {
        ready = λ n o s d e. says-9 state.Ready n o s (ready-wrong n o d e);
        early = λ st slot n o s x k. says-9 st n o s (unheard st n o (early-hears (asks_of o).who st rd slot n x (numbered-order o k)));
        ack_early = λ slot n k s. says-9 (state.Arbitrate rd slot) n (order.Ack k) s refl;
        rep_session = λ st n k s x d. says-9 st n (order.QueryRep k) s (unheard st n (order.QueryRep k) (session-hears st rd k n x d));
        adjust_session = λ st n k u s x d. says-9 st n (order.QueryAdjust k u) s (unheard st n (order.QueryAdjust k u) (session-hears st rd k n x d));
        adjust_nothing = λ st n k u s x y z. says-9 st n (order.QueryAdjust k u) s (bad-wrong st n (order.QueryAdjust k u) (no-up-down u x y z));
        select_untaken = λ st n x at s d. says-9 st n (order.Select x at) s (bad-wrong st n (order.Select x at) (untaken x d));
        killed = λ n o s. says-9 state.Killed n o s (unheard state.Killed n o (killed-hears (asks_of o).who n));
        acknowledged = λ m n o s k d.
            says-9 (state.Acknowledged rd m) n o s
            (unheard (state.Acknowledged rd m) n o (number-hears (asks_of o).who rd m n (numbered-order o k) ∙ not-heard m n o d));
        handle = λ q h c p n o s k d. says-9 (linked q (link rd h c p)) n o s (unfit q h c p n o (numbered-order o k) d);
      }
    where
      unfit : (q : Bool) (h : ℕ) (c : Option ℕ) (p : Option Half) (n : ℕ) (o : Order) → Named (asks_of o).who → (n ≢ h) ⊎ (Needs q c o → ⊥)
          → wrong_by (linked q (link rd h c p)) n (asks_of o) ≡ true
      unfit q h c p n o k (inl d) = other-wrong rd h c p q n (asks_of o) k d
      unfit q h c p n o k (inr f) = lacks-wrong rd h c p q n (asks_of o) k (lacks o q c f)

  -- 12, or 14 where the halves are broken
  says-halves : (broken q : Bool) (h : ℕ) (c : Option ℕ) (p : Option Half) (o : Order) → Says a h o → Needs q c o → Addressed o
      → halves_row (layout_of a.image) a.image (link rd h c p) p (asks_of o).part ≡ cond broken 14 12
      → answers_to answer_of a (awake (linked q (link rd h c p)) false r) ≡ drops (cond broken 14 12) a r rd
  says-halves b true h c p o s f k e =
      row-halves (layout_of a.image) a (state.Secured (link rd h c p)) r idle (record { number = h; order = o }) s b
      (has_right rd h c p true (asks_of o) (numbered-order o k) (has o true c k f)) e
  says-halves b false h c p o s f k e =
      row-halves (layout_of a.image) a (state.Open (link rd h c p)) r idle (record { number = h; order = o }) s b
      (has_right rd h c p false (asks_of o) (numbered-order o k) (has o false c k f)) e

  addressed : (h : ℕ) (c : Option ℕ) (p : Option Half) → Waits p → halves_row (layout_of a.image) a.image (link rd h c p) p (part.To h) ≡ 14
  addressed h c None w = absurd w
  addressed h c (Some (half.Access up)) w = ap (λ (b : Bool). cond b 14 0) (eq-eqb h h refl)
  addressed h c (Some (half.Kill up)) w = ap (λ (b : Bool). cond b 14 0) (eq-eqb h h refl)

  ack-14 : (q : Bool) (h n : ℕ) (c : Option ℕ) (p : Option Half) → Says a n (order.Ack h) → Waits p → answers_to answer_of a (awake (linked q (link rd h c p)) false r) ≡ drops 14 a r rd
  ack-14 true h n c p s w = row-halves (layout_of a.image) a (state.Secured (link rd h c p)) r idle (record { number = n; order = order.Ack h }) s true refl (addressed h c p w)
  ack-14 false h n c p s w = row-halves (layout_of a.image) a (state.Open (link rd h c p)) r idle (record { number = n; order = order.Ack h }) s true refl (addressed h c p w)

  -- two tests of which one fails
  not-both : (x z : ℕ) (u v : ℕ) → (x ≢ u) ⊎ (z ≢ v) → ◌≡◌ {A = ℕ} (cond (eqb x u && eqb z v) 0 12) 12
  not-both x z u v (inl d) = ap (λ (b : Bool). cond (b && eqb z v) 0 12) (ne_eqb x u d)
  not-both x z u v (inr d) = ap (λ (b : Bool). cond b 0 12) (ap (λ (b : Bool). eqb x u && b) (ne_eqb z v d) ∙ and-false (eqb x u))

  comes-between : (p : Option Half) (o : Order) (h : ℕ) (c : Option ℕ) → Other p o → halves_row (layout_of a.image) a.image (link rd h c p) p (asks_of o).part ≡ 14
  comes-between None o h c f = absurd f
  comes-between (Some (half.Access up)) o h c f = go o f
    where
      go : (o : Order) → Other (Some (half.Access up)) o → halves_row (layout_of a.image) a.image (link rd h c (Some (half.Access up))) (Some (half.Access up)) (asks_of o).part ≡ 14
      go (order.QueryRep k) f = absurd f.0
      go (order.Ack k) f = absurd f.0
      go (order.Query sel t x) f = absurd f.0
      go (order.QueryAdjust k u) f = absurd f.0
      go (order.Select x p) f = absurd f.0
      go order.Nak f = absurd f.0
      go order.ReqRn f = absurd (f.1 refl)
      go (order.Read s) f = refl
      go (order.Write s w) f = refl
      go (order.Kill w) f = refl
      go (order.Lock mask action) f = refl
      go (order.Access w) f = absurd (f.2 w refl)
      go (order.BlockWrite s at) f = refl
      go (order.BlockErase s) f = refl
      go (order.ReadPermalock rfu s) f = refl
      go (order.Permalock rfu s at) f = refl
  comes-between (Some (half.Kill up)) o h c f = go o f
    where
      go : (o : Order) → Other (Some (half.Kill up)) o → halves_row (layout_of a.image) a.image (link rd h c (Some (half.Kill up))) (Some (half.Kill up)) (asks_of o).part ≡ 14
      go (order.QueryRep k) f = absurd f.0
      go (order.Ack k) f = absurd f.0
      go (order.Query sel t x) f = absurd f.0
      go (order.QueryAdjust k u) f = absurd f.0
      go (order.Select x p) f = absurd f.0
      go order.Nak f = absurd f.0
      go order.ReqRn f = absurd (f.1 refl)
      go (order.Read s) f = refl
      go (order.Write s w) f = refl
      go (order.Kill w) f = absurd (f.2 w refl)
      go (order.Lock mask action) f = refl
      go (order.Access w) f = refl
      go (order.BlockWrite s at) f = refl
      go (order.BlockErase s) f = refl
      go (order.ReadPermalock rfu s) f = refl
      go (order.Permalock rfu s at) f = refl

  other-to : (p : Option Half) (o : Order) → Other p o → Addressed o
  other-to None o f = absurd f
  other-to (Some (half.Access up)) o f = f.0
  other-to (Some (half.Kill up)) o f = f.0

  drop-lines : Dropped answer_of (layout_of a.image) a r rd
  drop-lines =
      record {
        access = λ q h c up w s d. says-halves false q h (Some c) (Some (half.Access up)) (order.Access w) s tt tt (not-both up (bit_xor w c) _ _ d);
        kill = λ q h c up w s d. says-halves false q h (Some c) (Some (half.Kill up)) (order.Kill w) s tt tt (not-both up (bit_xor w c) _ _ d);
        between = λ q h c p o s f d. says-halves true q h c p o s f (other-to p o d) (comes-between p o h c d);
        ack = ack-14;
      }

  -- the code of an order where no half waits
  code_by : Bool → Option ℕ → Order → Code
  code_by q c (order.QueryRep k) = (Ok tt)
  code_by q c (order.Ack k) = (Ok tt)
  code_by q c (order.Query sel t x) = (Ok tt)
  code_by q c (order.QueryAdjust k u) = (Ok tt)
  code_by q c (order.Select x p) = (Ok tt)
  code_by q c order.Nak = (Ok tt)
  code_by q c order.ReqRn = (Ok tt)
  code_by q c (order.Read s) = read_code (layout_of a.image) a.image q s
  code_by q c (order.Write s w) = write_code (layout_of a.image) a.image q s (uncovered c w)
  code_by q c (order.Kill w) = cond (zero_kill (layout_of a.image) a.image) (Err fault.Other) (Ok tt)
  code_by q c (order.Lock mask action) = lock_code (layout_of a.image) a.image mask action
  code_by q c (order.Access w) = (Ok tt)
  code_by q c (order.BlockWrite s at) = write_code (layout_of a.image) a.image q s (field_at a.frame (at + 16 * (1 - s.pointer)) 16)
  code_by q c (order.BlockErase s) = write_code (layout_of a.image) a.image q s 0
  code_by q c (order.ReadPermalock rfu s) = perma_read_code (layout_of a.image) s
  code_by q c (order.Permalock rfu s at) = perma_code (layout_of a.image) a.image s a.frame at

  scene-in : State → Scene
  scene-in st = record { layout = layout_of a.image; image = a.image; flags = r.flags; state = st; frame = a.frame; fresh = a.fresh }

  ack-code : (b : Bool) (x z : Effect) → x.code ≡ (Ok tt) → z.code ≡ (Ok tt) → (cond b x z).code ≡ (Ok tt)
  ack-code true x z e f = e
  ack-code false x z e f = f

  same_code : (o : Order) (k : Link) → k.half ≡ None
      → ((effect_of (scene-in (state.Secured k)) o).code ≡ code_by true k.cover o) × ((effect_of (scene-in (state.Open k)) o).code ≡ code_by false k.cover o)
  unfolding scene-in code_by
  same_code (order.QueryRep n) k e = (refl, refl)
  same_code (order.Ack n) k e = (ack-code (eqb k.handle n) _ _ refl refl, ack-code (eqb k.handle n) _ _ refl refl)
  same_code (order.Query sel t x) k e = (refl, refl)
  same_code (order.QueryAdjust n u) k e = (refl, refl)
  same_code (order.Select x p) k e = (refl, refl)
  same_code order.Nak k e = (refl, refl)
  same_code order.ReqRn k e = (refl, refl)
  same_code (order.Read s) k e = (refl, refl)
  same_code (order.Write s w) k e = (refl, refl)
  same_code (order.Kill w) k e = (rw e, rw e)
  same_code (order.Lock mask action) k e = (refl, refl)
  same_code (order.Access w) k e = (rw e, rw e)
  same_code (order.BlockWrite s at) k e = (refl, refl)
  same_code (order.BlockErase s) k e = (refl, refl)
  same_code (order.ReadPermalock rfu s) k e = (refl, refl)
  same_code (order.Permalock rfu s at) k e = (refl, refl)

  never : (e : Fault) → ◌≡◌ {A = Code} (Ok tt) (Err e) → ⊥
  never e d = let z : ◌≡◌ {A = ℕ} 0 1 = cc in omega arith

  -- 10, where no half waits
  coded-to : (q : Bool) (c : Option ℕ) (o : Order) (e : Fault) → code_by q c o ≡ Err e → Addressed o
  unfolding code_by
  coded-to q c (order.QueryRep k) e d = absurd (never e d)
  coded-to q c (order.Ack k) e d = absurd (never e d)
  coded-to q c (order.Query sel t x) e d = absurd (never e d)
  coded-to q c (order.QueryAdjust k u) e d = absurd (never e d)
  coded-to q c (order.Select x p) e d = absurd (never e d)
  coded-to q c order.Nak e d = absurd (never e d)
  coded-to q c order.ReqRn e d = tt
  coded-to q c (order.Read s) e d = tt
  coded-to q c (order.Write s w) e d = tt
  coded-to q c (order.Kill w) e d = tt
  coded-to q c (order.Lock mask action) e d = tt
  coded-to q c (order.Access w) e d = tt
  coded-to q c (order.BlockWrite s at) e d = tt
  coded-to q c (order.BlockErase s) e d = tt
  coded-to q c (order.ReadPermalock rfu s) e d = tt
  coded-to q c (order.Permalock rfu s at) e d = tt

  says-10 : (q : Bool) (h : ℕ) (c : Option ℕ) (o : Order) (e : Fault) → Says a h o → Needs q c o → 6 ≤ length a.room → code_by q c o ≡ Err e
      → answers_to answer_of a (awake (linked q (link rd h c None)) false r) ≡ errs a r rd q h (fault_number e)
  unfolding handed replied-as scene-in
  says-10 q h c o e s f l d = go q f d
    where
      go : (q : Bool) → Needs q c o → code_by q c o ≡ Err e → answers_to answer_of a (awake (linked q (link rd h c None)) false r) ≡ errs a r rd q h (fault_number e)
      go true f d =
          row-10 (layout_of a.image) a (state.Secured (link rd h c None)) r idle (record { number = h; order = o }) s e
          (has_right rd h c None true (asks_of o) (numbered-order o (coded-to true c o e d)) (has o true c (coded-to true c o e d) f)) refl ((same_code o (link rd h c None) refl).0 ∙ d) l
      go false f d =
          row-10 (layout_of a.image) a (state.Open (link rd h c None)) r idle (record { number = h; order = o }) s e
          (has_right rd h c None false (asks_of o) (numbered-order o (coded-to false c o e d)) (has o false c (coded-to false c o e d) f)) refl ((same_code o (link rd h c None) refl).1 ∙ d) l

  -- what a writing command brings is what its code is asked of
  brings-needs : (o : Order) (q : Bool) (c : Option ℕ) (b p n pc : ℕ) → Brings a c o b p n pc → Needs q c o
  brings-needs (order.QueryRep k) q c b p n pc f = tt
  brings-needs (order.Ack k) q c b p n pc f = tt
  brings-needs (order.Query sel t x) q c b p n pc f = tt
  brings-needs (order.QueryAdjust k u) q c b p n pc f = tt
  brings-needs (order.Select x z) q c b p n pc f = tt
  brings-needs order.Nak q c b p n pc f = tt
  brings-needs order.ReqRn q c b p n pc f = tt
  brings-needs (order.Read s) q c b p n pc f = tt
  brings-needs (order.Write s w) q None b p n pc f = absurd f
  brings-needs (order.Write s w) q (Some k) b p n pc f = tt
  brings-needs (order.Kill w) q c b p n pc f = absurd f
  brings-needs (order.Lock mask action) q c b p n pc f = absurd f
  brings-needs (order.Access w) q c b p n pc f = absurd f
  brings-needs (order.BlockWrite s at) q c b p n pc f = rw f.0 f.1
  brings-needs (order.BlockErase s) q c b p n pc f = rw f.0 f.1
  brings-needs (order.ReadPermalock rfu s) q c b p n pc f = absurd f
  brings-needs (order.Permalock rfu s at) q c b p n pc f = absurd f

  -- a bank's number has two bits
  bank-small : (o : Order) (c : Option ℕ) (b p n pc h : ℕ) → Says a h o → Brings a c o b p n pc → b < 4
  bank-small (order.QueryRep k) c b p n pc h s f = absurd f
  bank-small (order.Ack k) c b p n pc h s f = absurd f
  bank-small (order.Query sel t x) c b p n pc h s f = absurd f
  bank-small (order.QueryAdjust k u) c b p n pc h s f = absurd f
  bank-small (order.Select x z) c b p n pc h s f = absurd f
  bank-small order.Nak c b p n pc h s f = absurd f
  bank-small order.ReqRn c b p n pc h s f = absurd f
  bank-small (order.Read x) c b p n pc h s f = absurd f
  bank-small (order.Write x w) None b p n pc h s f = absurd f
  bank-small (order.Write x w) (Some k) b p n pc h s f =
      subst (λ (z : Span). z.bank < 4) f.0 (said-small a.frame a.bits (record { number = h; order = order.Write x w }) s).0
  bank-small (order.Kill w) c b p n pc h s f = absurd f
  bank-small (order.Lock mask action) c b p n pc h s f = absurd f
  bank-small (order.Access w) c b p n pc h s f = absurd f
  bank-small (order.BlockWrite x at) c b p n pc h s f =
      subst (λ (z : Span). z.bank < 4) f.0 (said-small a.frame a.bits (record { number = h; order = order.BlockWrite x at }) s)
  bank-small (order.BlockErase x) c b p n pc h s f =
      subst (λ (z : Span). z.bank < 4) f.0 (said-small a.frame a.bits (record { number = h; order = order.BlockErase x }) s)
  bank-small (order.ReadPermalock rfu x) c b p n pc h s f = absurd f
  bank-small (order.Permalock rfu x at) c b p n pc h s f = absurd f

  brings-code : (o : Order) (q : Bool) (c : Option ℕ) (b p n pc : ℕ) → Brings a c o b p n pc
      → code_by q c o ≡ write_code (layout_of a.image) a.image q (span b p n) pc
  unfolding code_by
  brings-code (order.QueryRep k) q c b p n pc f = absurd f
  brings-code (order.Ack k) q c b p n pc f = absurd f
  brings-code (order.Query sel t x) q c b p n pc f = absurd f
  brings-code (order.QueryAdjust k u) q c b p n pc f = absurd f
  brings-code (order.Select x z) q c b p n pc f = absurd f
  brings-code order.Nak q c b p n pc f = absurd f
  brings-code order.ReqRn q c b p n pc f = absurd f
  brings-code (order.Read s) q c b p n pc f = absurd f
  brings-code (order.Write s w) q None b p n pc f = absurd f
  brings-code (order.Write s w) q (Some k) b p n pc f = rw (f.0, f.1, f.2)
  brings-code (order.Kill w) q c b p n pc f = absurd f
  brings-code (order.Lock mask action) q c b p n pc f = absurd f
  brings-code (order.Access w) q c b p n pc f = absurd f
  brings-code (order.BlockWrite s at) q c b p n pc f = rw (f.0, f.2)
  brings-code (order.BlockErase s) q c b p n pc f = rw (f.0, f.2)
  brings-code (order.ReadPermalock rfu s) q c b p n pc f = absurd f
  brings-code (order.Permalock rfu s at) q c b p n pc f = absurd f

  module _ (l : 6 ≤ length a.room) where
    error-lines : (q : Bool) (h : ℕ) (c : Option ℕ) → Errors answer_of (layout_of a.image) a r rd q h c
    unfolding code_by
    error-lines q h c =
        record {
          read_past = λ b p n s f. says-10 q h c (order.Read (span b p n)) fault.PastEnd s tt l (codes.read_past (layout_of a.image) a.image q b p n f);
          read_right = λ b p n k j s w d i e. says-10 q h c (order.Read (span b p n)) fault.NoRight s tt l (codes.read_right (layout_of a.image) a.image q b p n k j w d i e);
          write-past = λ o b p n pc s f d.
              says-10 q h c o fault.PastEnd s (brings-needs o q c b p n pc f) l (brings-code o q c b p n pc f ∙ codes.write-past (layout_of a.image) a.image q b p n pc d);
          write_right = λ o b p n pc j s f w i e.
              says-10 q h c o fault.NoRight s (brings-needs o q c b p n pc f) l (brings-code o q c b p n pc f ∙ codes.write_right (layout_of a.image) a.image q b p n pc j w i (bank-small o c b p n pc h s f) e);
          write-pc = λ o b p n pc s f w g t e.
              says-10 q h c o fault.PastEnd s (brings-needs o q c b p n pc f) l (brings-code o q c b p n pc f ∙ codes.write-pc (layout_of a.image) a.image q b p n pc w g t e);
          write-many = λ o b p n pc s f w g t e.
              says-10 q h c o fault.Other s (brings-needs o q c b p n pc f) l (brings-code o q c b p n pc f ∙ codes.write-many (layout_of a.image) a.image q b p n pc w g t e);
          kill-zero = λ k w e s u v.
              says-10 q h c (order.Kill w) fault.Other s (subst Covered (sym e) tt) l
              (ap₂ (λ (t x : Bool). cond (t && x) (Err fault.Other) (Ok tt)) (eq-eqb (kill_word (layout_of a.image) a.image 0) 0 u) (eq-eqb (kill_word (layout_of a.image) a.image 1) 0 v));
        }

    lock-lines : (h : ℕ) (c : Option ℕ) → Locks answer_of (layout_of a.image) a r rd h c
    unfolding code_by
    lock-lines h c =
        record {
          lock_pair = λ mask action k s i e d. says-10 true h c (order.Lock mask action) fault.NoRight s refl l (codes.lock_pair (layout_of a.image) a.image mask action k i e d);
          lock_user = λ mask action b s f e d i g.
              says-10 true h c (order.Lock mask action) fault.NoRight s refl l (codes.lock_user (layout_of a.image) a.image mask action b f e d i g);
          perma_read = λ b p n s i d. says-10 true h c (order.ReadPermalock 0 (span b p n)) fault.PastEnd s (refl, refl, i) l (codes.perma_read (layout_of a.image) b p n d);
          perma_past = λ b p n at s i d.
              says-10 true h c (order.Permalock 0 (span b p n) at) fault.PastEnd s (refl, refl, i) l (codes.perma_past (layout_of a.image) a.image a.frame p n at b d);
          perma_mask = λ p n at k s i w j d e.
              says-10 true h c (order.Permalock 0 (span 3 p n) at) fault.PastEnd s (refl, refl, i) l (codes.perma_mask (layout_of a.image) a.image a.frame p n at k w j d e);
          perma_user = λ p n at s i w g e d.
              says-10 true h c (order.Permalock 0 (span 3 p n) at) fault.NoRight s (refl, refl, i) l (codes.perma_user (layout_of a.image) a.image a.frame p n at w g e d);
        }

-- calls without an image
alone-lines : (m : List ℕ) → NoImageRefused answer_of m
unfolding ask_of release_of register_of
alone-lines m =
    record {
      ask_off = refl;
      ask_held = λ st r. refl;
      ask_linked = linked-so;
      release_off = refl;
      release_free = λ st r. refl;
      register_off = refl;
      register_free = λ st r. refl;
    }
  where
    linked-so : (q : Bool) (rd : Round) (h : ℕ) (c : Option ℕ) (p : Option Half) (r : Aside)
        → asked answer_of (awake (linked q (link rd h c p)) false r) m ask ≡ leaves 6 (awake (linked q (link rd h c p)) false r) [] []
    linked-so true rd h c p r = refl
    linked-so false rd h c p r = refl

-- the session's part of row 5
pends-so : (y : Layout) (m : List ℕ) (s : Session) → check_of m ≡ good y → count_in y m ≢ 0 → is_off s.power || not (eqb (count_in (layout_of m) m) 0) ≡ true
pends-so y m s e n =
    ap (λ (b : Bool). is_off s.power || not b)
    (ne_eqb (count_in (layout_of m) m) 0 (subst (λ (z : Layout). count_in z m ≢ 0) (check-good m y e).layout n))
    ∙ or_right (is_off s.power) true refl

-- SPI transfers: rows that begin with the port's refusals, and what is given where none holds
record Listed (m room : List ℕ) (c : Call) (bad : Bool) : Type 0 where
  more : Session → Rows
  last : Session → Result
  same : (s : Session) → asked answer_of s m c ≡ first (refusals s m room bad ++ more s) (last s)

module _ (m room : List ℕ) (c : Call) (bad : Bool) (x : Listed m room c bad) where
  all : Session → Rows
  all s = refusals s m room bad ++ x.more s

  row-5 : (y : Layout) (s : Session) → check_of m ≡ good y → is_off s.power || not (eqb (count_in (layout_of m) m) 0) ≡ true → asked answer_of s m c ≡ leaves 5 s m room
  unfolding all
  row-5 y s e d = let k = check-0 m y (sym e) in x.same s ∙ first-at 3 (all s) (x.last s) (k.0, (k.1, (k.2, d)))

  module _ (y : Layout) (idle : Idle y m) (st : State) (b : Bool) (r : Aside) where
    idle-5 : not (eqb (count_in (layout_of m) m) 0) ≡ false
    idle-5 = ap not (eq-eqb (count_in (layout_of m) m) 0 (subst (λ (x : Layout). count_in x m ≡ 0) (check-good m y idle.sound).layout idle.nothing))

    row-6 : b ≡ false → asked answer_of (awake st b r) m c ≡ leaves 6 (awake st b r) m room
    unfolding all
    row-6 e =
        let k = check-0 m y (sym idle.sound) in
        x.same (awake st b r) ∙ first-at 4 (all (awake st b r)) (x.last (awake st b r)) (k.0, (k.1, (k.2, (idle-5, ap not e))))

    row-13 : b ≡ true → bad ≡ true → asked answer_of (awake st b r) m c ≡ leaves 13 (awake st b r) m room
    unfolding all
    row-13 e d =
        let k = check-0 m y (sym idle.sound) in
        x.same (awake st b r) ∙ first-at 5 (all (awake st b r)) (x.last (awake st b r)) (k.0, (k.1, (k.2, (idle-5, (ap not e, d)))))

    -- past 13
    row_more : (k : ℕ) → b ≡ true → bad ≡ false → Reaches k (x.more (awake st b r))
        → asked answer_of (awake st b r) m c ≡ row_at k (x.more (awake st b r)) (x.last (awake st b r))
    unfolding all
    row_more k e d h =
        let i = check-0 m y (sym idle.sound) in
        x.same (awake st b r)
        ∙ first-at (suc (suc (suc (suc (suc (suc k)))))) (all (awake st b r)) (x.last (awake st b r)) (i.0, (i.1, (i.2, (idle-5, (ap not e, (d, h))))))

  transfer-lines : TransferRefused answer_of m c room
  unfolding all
  transfer-lines =
      record {
        bad_image = λ s n e. x.same s ∙ image-first m (λ k. leaves k s m room) (drop 3 (all s)) (x.last s) n e;
        off = λ y e. row-5 y off_session e refl;
        pends = λ y s e n. row-5 y s e (pends-so y m s e n);
        free = λ y st r idle. row-6 y idle st false r refl;
      }

read-listed : (m : List ℕ) (at n : ℕ) (room : List ℕ) → Listed m room (read at n room) (bad_count (layout_of m) at n)
unfolding read_of
read-listed m at n room =
    record {
      more = λ s. (leaves 4 s m room, ltb (length room) (2 * n)) ∷ [];
      last = λ s.
          (read_of s m at n room).done;
      same = λ s. refl;
    }

write-listed : (m : List ℕ) (at : ℕ) (d : List ℕ) (u : ℕ) → Listed m [] (write at d u) (bad_data (layout_of m) at d)
unfolding write_of
write-listed m at d u =
    record {
      more = λ s.
          let stores = change_stores (layout_of m).work.at (port_words (layout_of m) m (is_killed (live_of s.power).state) at d) in
          (lost m stores u [], ltb u (length stores)) ∷ [];
      last = λ s.
          (write_of change_stores s m at d u).done;
      same = λ s. refl;
    }

-- counts
bad-count : (y : Layout) (at n : ℕ) → BadCount y at n → bad_count y at n ≡ true
bad-count y at n (inl e) = ap (λ (b : Bool). b || ltb 255 n || ltb y.user.words (at + n)) (eq-eqb n 0 e)
bad-count y at n (inr (inl l)) = or-middle (eqb n 0) (ltb 255 n) (ltb y.user.words (at + n)) (lt-ltb 255 n l)
bad-count y at n (inr (inr l)) = or_right (eqb n 0 || ltb 255 n) (ltb y.user.words (at + n)) (lt-ltb y.user.words (at + n) l)

good-count : (y : Layout) (at n : ℕ) → 1 ≤ n → n ≤ 255 → at + n ≤ y.user.words → bad_count y at n ≡ false
good-count y at n a b c = rw (ne_eqb n 0 (omega arith), le-ltb 255 n b, le-ltb y.user.words (at + n) c)

bad-data : (y : Layout) (at n : ℕ) (d : List ℕ) → length d ≡ 2 * n → BadCount y at n ⊎ (pairs_in y < n) → bad_data y at d ≡ true
bad-data y at n d e f =
    let h : length d / 2 ≡ n = omega (arith, e) in
    let z : eqb (length d % 2) 0 ≡ true = eq-eqb (length d % 2) 0 (omega (arith, e)) in
    rw (z, h) (go f)
  where
    go : BadCount y at n ⊎ (pairs_in y < n) → bad_count y at n || ltb (pairs_in y) n ≡ true
    go (inl g) = ap (λ (b : Bool). b || ltb (pairs_in y) n) (bad-count y at n g)
    go (inr l) = or_right (bad_count y at n) (ltb (pairs_in y) n) (lt-ltb (pairs_in y) n l)

port-lines : (m : List ℕ) (st : State) (r : Aside) → Idle (layout_of m) m → PortRefused answer_of (layout_of m) m st r
unfolding read-listed
port-lines m st r idle =
    record {
      read_count = λ at n room f.
          row-13 m room (read at n room) (bad_count (layout_of m) at n) (read-listed m at n room) (layout_of m) idle st true r refl (bad-count (layout_of m) at n f);
      read_room = λ at n room a b c l.
          row_more m room (read at n room) (bad_count (layout_of m) at n) (read-listed m at n room) (layout_of m) idle st true r 0 refl (good-count (layout_of m) at n a b c)
          (lt-ltb (length room) (2 * n) l);
      write_odd = λ at d u f.
          row-13 m [] (write at d u) (bad_data (layout_of m) at d) (write-listed m at d u) (layout_of m) idle st true r refl
          (ap (λ (b : Bool). not b || bad_count (layout_of m) at (length d / 2) || ltb (pairs_in (layout_of m)) (length d / 2)) (ne_eqb (length d % 2) 0 f));
      write_count = λ at n d u e f.
          row-13 m [] (write at d u) (bad_data (layout_of m) at d) (write-listed m at d u) (layout_of m) idle st true r refl (bad-data (layout_of m) at n d e f);
    }

-- for any layout that the image has
own-layout : (y : Layout) (m : List ℕ) → Idle y m → y ≡ layout_of m
own-layout y m idle = (check-good m y idle.sound).layout

own-idle : (y : Layout) (m : List ℕ) → Idle y m → Idle (layout_of m) m
own-idle y m idle = subst (λ (z : Layout). Idle z m) (own-layout y m idle) idle

start-refused : (m : List ℕ) (s : Session) (n u : ℕ) → check_of m ≡ refused n → asked answer_of s m (power_up u) ≡ leaves n off_session m []
unfolding power_up_of
start-refused m s n u e = image-first m (λ k. leaves k off_session m []) (drop 3 (power_up_of m u).rows) (power_up_of m u).done n e

pub when-refused : Refusals answer_of
when-refused =
    record {
      unready = λ a. record { bad_image = bad_image a; off = off a; pends = pends a; held = held a };
      unheard = λ y a st r idle.
          record {
            malformed = row-7 y a st r idle;
            checksum = row-8 y a st r idle;
          };
      wrong = λ y a r rd idle. wrongs a r rd (own-idle y a.image idle);
      dropped = λ y a r rd idle. subst (λ (z : Layout). Dropped answer_of z a r rd) (sym (own-layout y a.image idle)) (drop-lines a r rd (own-idle y a.image idle));
      errors = λ y a r rd q h c idle l.
          subst (λ (z : Layout). Errors answer_of z a r rd q h c) (sym (own-layout y a.image idle)) (error-lines a r rd (own-idle y a.image idle) l q h c);
      locks = λ y a r rd h c idle l.
          subst (λ (z : Layout). Locks answer_of z a r rd h c) (sym (own-layout y a.image idle)) (lock-lines a r rd (own-idle y a.image idle) l h c);
      at_power_up = λ m s n u e. start-refused m s n u e;
      no_image = alone-lines;
      reads = λ m at n room. transfer-lines m room (read at n room) (bad_count (layout_of m) at n) (read-listed m at n room);
      writes = λ m at d u. transfer-lines m [] (write at d u) (bad_data (layout_of m) at d) (write-listed m at d u);
      port = λ y m st r idle. subst (λ (z : Layout). PortRefused answer_of z m st r) (sym (own-layout y m idle)) (port-lines m st r (own-idle y m idle));
      short = too_short;
    }
