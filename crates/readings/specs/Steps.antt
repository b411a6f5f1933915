-- The rows of each kind of reply, as the code asks them. Assumes nothing.
use Rattle.std.specs.Prelude.{ℕ, Bool, true, false, cond, Option, Some, None, List, [], ◌∷◌}
use Rattle.bits.specs.First.{first}
use Rattle.readings.specs.declared.Awaited.{Awaited}
use Rattle.readings.specs.declared.Awaited.TheVariants as await
use Rattle.readings.specs.Reading.{Told, Row, drawn, epc, renewed, handle, success, failure, shown, asked, wrong_sum}
use Rattle.readings.specs.Reading as told

abbrev pub is_drawn : Option Awaited → Bool
is_drawn (Some await.Drawn) = true
is_drawn (Some await.Epc) = false
is_drawn (Some await.Renewed) = false
is_drawn (Some await.Handle) = false
is_drawn (Some await.Half) = false
is_drawn (Some await.Done) = false
is_drawn (Some (await.Words k)) = false
is_drawn None = false

module _ (h n : ℕ) (m : List ℕ) where
  abbrev pub done_rows : List Row
  done_rows = success h n m ∷ failure h n m ∷ []

  abbrev pub kind_rows : Option Awaited → List Row
  kind_rows (Some await.Drawn) = drawn h n m ∷ []
  kind_rows (Some await.Epc) = epc h n m ∷ []
  kind_rows (Some await.Renewed) = renewed h n m ∷ []
  kind_rows (Some await.Handle) = handle h n m ∷ []
  kind_rows (Some await.Half) = handle h n m ∷ done_rows
  kind_rows (Some await.Done) = done_rows
  kind_rows (Some (await.Words k)) = shown h n m (asked h n m k) ∷ failure h n m ∷ []
  kind_rows None = []

  abbrev pub awaited_rows : Option Awaited → List Row
  awaited_rows a = cond (is_drawn a) (drawn h n m ∷ []) (wrong_sum h n m ∷ kind_rows a)

-- the first row that holds, or 15
abbrev pub saying : List Row → Told
saying rows = first rows (told.refused 15)
