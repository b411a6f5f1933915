-- The rows as the code asks them are the table's. Assumes nothing.
use Rattle.std.specs.Prelude.{ℕ, Option, Some, None}
use mathlib.Core.Path.{◌≡◌, refl}
use mathlib.Core.List.{List}
use Rattle.readings.specs.declared.Awaited.{Awaited}
use Rattle.readings.specs.declared.Awaited.TheVariants as await
use Rattle.readings.specs.Reading.{rows_of}
use Rattle.readings.specs.Steps.{awaited_rows}

pub rows-awaited : (h n : ℕ) (m : List ℕ) (a : Option Awaited) → rows_of h n m a ≡ awaited_rows h n m a
rows-awaited h n m (Some await.Drawn) = refl
rows-awaited h n m (Some await.Epc) = refl
rows-awaited h n m (Some await.Renewed) = refl
rows-awaited h n m (Some await.Handle) = refl
rows-awaited h n m (Some await.Half) = refl
rows-awaited h n m (Some await.Done) = refl
rows-awaited h n m (Some (await.Words k)) = refl
rows-awaited h n m None = refl
