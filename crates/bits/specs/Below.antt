-- Counting up from 0: a list of n elements, and a test of n numbers. A list of tests. Assumes nothing.
use Rattle.std.specs.Prelude.{ℕ, zero, suc, Bool, true, ◌&&◌, List, [], ◌∷◌, ◌++◌}

-- f 0, f 1 .. f (n - 1)
abbrev pub below : {A : Type 0} → (ℕ → A) → ℕ → List A
below f zero = []
below f (suc n) = below f n ++ (f n ∷ [])

-- each of 0, 1 .. n - 1 passes the test
abbrev pub every : (ℕ → Bool) → ℕ → Bool
every t zero = true
every t (suc n) = every t n && t n

-- each of a list of tests holds
abbrev pub all_on : Bool → List Bool → Bool
all_on b [] = b
all_on b (c ∷ cs) = all_on (b && c) cs

abbrev pub all : List Bool → Bool
all cs = all_on true cs
