-- What the code looks through: the three bytes that hold a field. Assumes nothing.
use Rattle.std.specs.Prelude.{ℕ, ◌+◌, ◌*◌, List, get_or}

-- the three bytes of m from byte k on, as one number
unfoldable pub window_at : List ℕ → ℕ → ℕ
window_at m k = (get_or m k 0 * 256 + get_or m (k + 1) 0) * 256 + get_or m (k + 2) 0
