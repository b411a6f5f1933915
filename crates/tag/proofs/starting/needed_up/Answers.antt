-- `tag::starting::needed_up` meets its contract: by the pending count. Assumes nothing.
use Rattle.stores.proofs.Changes.{power-idle, power-some}
use mathlib.Core.Path.{sym, ap, ◌∙◌}
use Prim.Native.Nat.{ℕ, ◌+◌}
use Rattle.tag.proofs.starting.needed_up.Goals as goal

pub returns-then-c-eq0 : goal.returns-then-c-eq0
returns-then-c-eq0 c = let a = c.args in
    sym (power-idle a.y a.image.now (sym c.word-c.ensures ∙ c.if-c-eq0.true))

pub returns-else-c-eq0 : goal.returns-else-c-eq0
returns-else-c-eq0 c = let a = c.args in
    ap (λ (k : ℕ). k + 2) c.word-c.ensures ∙ sym (power-some a.y a.image.now (λ e. c.if-c-eq0.false (c.word-c.ensures ∙ e)))
