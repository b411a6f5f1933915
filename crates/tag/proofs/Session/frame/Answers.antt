-- `tag::Session::frame` meets its contract: the frame to its record, and the session of what that leaves. Assumes nothing.
use mathlib.Core.Path.{◌≡◌, ap, ◌∙◌}
use Rattle.stores.specs.Stores.{change_stores}
use Rattle.tag.specs.declared.Session.{Session}
use Rattle.tag.specs.Result.{first_of}
use Rattle.tag.specs.Table.{frame_of}
use Rattle.tag.specs.Records.{session_of}
use Rattle.tag.specs.Steps.{input}
use Rattle.tag.proofs.Records.{again}
use Rattle.tag.proofs.Entry.{back, back-again}
use Rattle.tag.proofs.Session.frame.Goals as goal

pub returns : goal.returns
returns c = let a = c.args in
    let own : session_of (_) ≡ a.self = ap session_of c.record_of.ensures ∙ again a.self.power in
    rw c.outcome.ensures (ap back c.frame.ensures ∙ back-again _ ∙ ap (λ (v : Session). first_of (frame_of change_stores (input v a.image.now a.frame.now a.n a.fresh a.room.now a.s))) own)
