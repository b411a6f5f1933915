-- Power-up's answers, in order (RULES 2.6, 2.7 and 5): 1, 2, 3, 11. Assumes nothing.
use Rattle.std.specs.Prelude.{ℕ, false, cond, List, [], ◌∷◌, ◌++◌, eqb, ltb, length}
use Rattle.bits.specs.Words.{after}
use Rattle.image.specs.Layout.{layout_of}
use Rattle.image.specs.Content.{killed_word}
use Rattle.image.specs.Check.{image_rows}
use Rattle.stores.specs.Stores.{power_stores}
use Rattle.states.specs.declared.State.TheVariants as state
use Rattle.tag.specs.Session.{off_session, on, new_flags, clear}
use Rattle.tag.specs.Result.{leaves, storing, lost, Answers}

-- where no row holds every store is made; 2.7: the session is new, Killed if the image says so, else Ready, with new flags, port free, register
-- 0
unfoldable pub power_up_of : List ℕ → ℕ → Answers
power_up_of m s =
    let y = layout_of m in
    let stores = power_stores y m in
    let first = cond (eqb (killed_word y (after m stores)) 0) state.Ready state.Killed in
    record {
      rows = image_rows (λ n. leaves n off_session m []) m ++ ((lost m stores s [], ltb s (length stores)) ∷ []);
      done = storing stores (leaves 0 (on new_flags first false clear) m []);
    }
