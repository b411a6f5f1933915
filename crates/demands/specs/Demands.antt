-- What the buyer asked for (RULES D1 to D3), as statements of any program A. Their proofs of the tag: `demand-1`, `demand-2`, `demand-3`
-- and `any-run` in proofs/. Assumes nothing.
use Rattle.std.specs.Prelude.{ℕ, ◌+◌, ◌*◌, ◌/◌, ◌^◌, ◌≤◌, ◌<◌, ◌≡◌, ◌⊎◌, Bool, true, false, cond, ◌||◌, List, [], ◌∷◌, ◌++◌, eqb, length, take, Option, None, Some}
use Rattle.bits.specs.Words.{Bytes, word_at, Store, after}
use Rattle.image.specs.declared.Layout.{Layout}
use Rattle.image.specs.Layout.{layout_of, end, blocks_in, within}
use Rattle.image.specs.Content.{lock_word, killed_word, permalock}
use Rattle.image.specs.Check.{Verdict, check_of, meaning, refused, good}
use Rattle.image.specs.Rules.{Header, Good}
use Rattle.replies.specs.declared.Reply.TheVariants as reply
use Rattle.replies.specs.Replies.{reply_bits}
use Rattle.replies.specs.Pack.{packed}
use Rattle.rights.specs.Rights.{Code}
use Rattle.std.specs.Prelude.{Ok, Err}
use Rattle.rights.specs.Rights.{pwd_bit, perma_bit, fault_number}
use Rattle.stores.specs.Cuts.{Cut, reaches}
use Rattle.frames.specs.declared.Round.{Round}
use Rattle.states.specs.declared.State.{State}
use Rattle.states.specs.declared.State.TheVariants as state
use Rattle.tag.specs.declared.Live.{Live}
use Rattle.tag.specs.declared.Session.{Session}
use Rattle.tag.specs.declared.Outcome.{Outcome}
use Rattle.tag.specs.Session.{off_session}
use Rattle.tag.specs.Result.{Result, leaves}
use Rattle.states.specs.Commands.{link_of, used, fallen}
use Rattle.tag.specs.Table.{live_of, reply_or, moved_to}
use Rattle.demands.specs.Calls.{Call, power_up, frame, ask, release, register, read, write, Tag, Program, asked, Meets, session_in, image_in, room_in, power_in, words_in, stores_in, code_in, value_in, image_after, torn, Turn, run_image, Idle, answers_in}

-- DEMAND 1. Every image, frame and SPI transaction that can be handed over gets one answer of the table; a refusal leaves what the table
-- says.

-- the numbers that leave everything
abbrev pub refuses : ℕ → Bool
refuses n = within 1 9 n || eqb n 13

-- the numbers of a wrong password and of broken halves
abbrev pub falls_back : ℕ → Bool
falls_back n = eqb n 12 || eqb n 14

-- the error codes
abbrev pub AnErrorCode : Code → Type 0
AnErrorCode (Ok u) = ⊥
AnErrorCode (Err e) = (fault_number e ≡ 0x00) ⊎ (fault_number e ≡ 0x03) ⊎ (fault_number e ≡ 0x04)

-- number by number: 1 to 9 and 13 leave everything (of a power-up with an Off session); 10 gives the error reply of its code, leaves the
-- image and uses up the cover number; 11 comes where the power lasts for fewer stores than are needed, and leaves the first s of them, Off
-- and no reply; 12 and 14 leave the image, Arbitrate and no reply; and an answer without a reply changes no byte of the room. Done, it makes its
-- stores and no other; a value is handed back where the register is read, and is 0 elsewhere. WHEN each number comes: `Refusals`
pub record Tabled (t : Tag) (c : Call) (r : Result) : Type 0 where
  pub listed : r.number ≤ 14
  pub everything : refuses r.number ≡ true → r ≡ leaves r.number (session_in t c) (image_in t c) (room_in c)
  pub error : r.number ≡ 10
      → let l = live_of t.session.power in
      (r.image ≡ image_in t c)
      × (r.stores ≡ 0)
      × (r.session ≡ moved_to l (used l.state))
      × (r.reply ≡ 41)
      × (r.room ≡ packed (reply_bits t.image (reply_or (code_in t c) (link_of l.state).handle reply.Silence)) (room_in c))
  pub coded : r.number ≡ 10 → AnErrorCode (code_in t c)
  pub lost : r.number ≡ 11
      → (power_in c < length (stores_in t c))
      × (r
      ≡ record {
        number = 11;
        session = off_session;
        reply = 0;
        stores = power_in c;
        value = 0;
        image = after (image_in t c) (take (power_in c) (stores_in t c));
        room = room_in c;
      })
  pub dropped : falls_back r.number ≡ true → r ≡ leaves r.number (let l = live_of t.session.power in moved_to l (fallen l.state)) (image_in t c) (room_in c)
  pub silent : r.reply ≡ 0 → r.room ≡ room_in c
  pub made : r.number ≡ 0 → (r.stores ≡ length (stores_in t c)) × (r.image ≡ after (image_in t c) (stores_in t c))
  pub value : r.value ≡ cond (eqb r.number 0) (value_in t c) 0

-- what the check answers: good just where every rule of header and content holds (`image` Rules), else the first of 1, 2 and 3
pub record Checks (m : List ℕ) : Type 0 where
  pub good_so : (y : Layout) → check_of m ≡ good y → Good y m
  pub so_good : (y : Layout) → Good y m → check_of m ≡ good y
  pub short : length m < 32 → check_of m ≡ refused 1
  pub header : 32 ≤ length m → (Header (layout_of m) m → ⊥) → check_of m ≡ refused 2
  pub content : 32 ≤ length m → Header (layout_of m) m → (Good (layout_of m) m → ⊥) → check_of m ≡ refused 3

-- the order in which each call's answers are asked for
abbrev pub order_in : Call → List ℕ
order_in (power_up s) = 1 ∷ 2 ∷ 3 ∷ 11 ∷ []
order_in (frame f bits fresh room s) = 1 ∷ 2 ∷ 3 ∷ 5 ∷ 6 ∷ 7 ∷ 8 ∷ 9 ∷ 12 ∷ 14 ∷ 10 ∷ 4 ∷ 11 ∷ []
order_in ask = 5 ∷ 6 ∷ []
order_in release = 5 ∷ 6 ∷ []
order_in register = 5 ∷ 6 ∷ []
order_in (read at count room) = 1 ∷ 2 ∷ 3 ∷ 5 ∷ 6 ∷ 13 ∷ 4 ∷ []
order_in (write at d s) = 1 ∷ 2 ∷ 3 ∷ 5 ∷ 6 ∷ 13 ∷ 11 ∷ []

abbrev pub numbers_of : List (Result × Bool) → List ℕ
numbers_of [] = []
numbers_of (x ∷ xs) = x.0.number ∷ numbers_of xs

-- r is what the first row that holds leaves, or what is left where none does
abbrev pub Under : List (Result × Bool) → Result → Result → Type 0
Under [] last r = r ≡ last
Under (x ∷ xs) last r = ((x.1 ≡ true) × (r ≡ x.0)) ⊎ ((x.1 ≡ false) × Under xs last r)

-- the table, complete and exact: a call's rows have these numbers in this order, and every call falls under one of them or is answered 0
pub record Exact (A : Program) (t : Tag) (c : Call) : Type 0 where
  pub order : numbers_of (answers_in t c).rows ≡ order_in c
  pub zero : (answers_in t c).done.number ≡ 0
  pub under : Under (answers_in t c).rows (answers_in t c).done (A t c)

-- 11.2: the numbers of a round and of a slot within their bounds; what a session holds
abbrev pub Bounded : Round → Type 0
Bounded q = (q.session < 4) × (q.q < 16)

abbrev pub Reachable : State → Type 0
Reachable state.Ready = Unit {0}
Reachable (state.Arbitrate q slot) = Bounded q × (slot < 2 ^ 15)
Reachable (state.Reply q n) = Bounded q
Reachable (state.Acknowledged q n) = Bounded q
Reachable (state.Open k) = Bounded k.round
Reachable (state.Secured k) = Bounded k.round
Reachable state.Killed = Unit {0}

abbrev pub Reached : Option Live → Type 0
Reached None = Unit {0}
Reached (Some l) = Reachable l.state

pub record Demand1 (A : Program) : Type 0 where
  pub check : (m : List ℕ) (p q : Verdict) → meaning p ≡ check_of m → meaning q ≡ check_of m → p ≡ q
  pub checks : (m : List ℕ) → Checks m
  pub one : (t : Tag) (c : Call) (p q : Outcome) (m n a b : List ℕ) → Meets A t c p m a → Meets A t c q n b → (p ≡ q) × (m ≡ n) × (a ≡ b)
  pub table : (t : Tag) (c : Call) → Tabled t c (A t c)
  pub exact : (t : Tag) (c : Call) → Exact A t c
  -- no call leaves these bounds; power-up, which asks for no session, comes to them
  pub bounds : (t : Tag) (c : Call) → Reached (session_in t c).power → Reached (A t c).session.power

-- DEMAND 2 stands in `Commands`: command by command.

-- DEMAND 3. From a good image with nothing pending, a frame or SPI write that stores n words, n at least 1: cut it after any number of
-- stores, and cut the power-ups that follow as often as you like. The first whole power-up leaves every word outside WORK as if the
-- command had never come (at most 2n stores made) or as if it had finished (more), each followed by one whole power-up. One byte is whole
-- or absent: a cut may leave one byte of the next store made. The count of the pending words, store 2n + 1, is made where its low byte
-- is.

-- a call that may store, without its s
pub data Storing : Type 0 where
  by_radio : List ℕ → ℕ → ℕ → List ℕ → Storing
  by_port : ℕ → List ℕ → Storing

-- the call, where the power lasts for s stores
abbrev pub lasting : Storing → ℕ → Call
lasting (by_radio f bits fresh room) s = frame f bits fresh room s
lasting (by_port at d) s = write at d s

-- words go in rising address order
abbrev pub Rising : List Store → Type 0
Rising [] = Unit {0}
Rising (s ∷ []) = Unit {0}
Rising (s ∷ u ∷ ss) = (s.at < u.at) × Rising (u ∷ ss)

-- from a good image with nothing pending, c is done with power for `enough`, and changes n words; what is lent as an image consists of
-- bytes
pub record Completes (A : Program) (y : Layout) (t : Tag) (c : Storing) (n enough : ℕ) : Type 0 where
  pub bytes : Bytes t.image
  pub idle : Idle y t.image
  pub some : 1 ≤ n
  pub done : (A t (lasting c enough)).number ≡ 0
  pub words : length (words_in t (lasting c enough)) ≡ n

-- a power-up of the image m with power for s stores; the image after power-ups, each cut
abbrev pub powered_up : Program → List ℕ → ℕ → Result
powered_up A m s = asked A off_session m (power_up s)

abbrev pub power_ups : Program → List Cut → List ℕ → List ℕ
power_ups A [] m = m
power_ups A (f ∷ fs) m = power_ups A fs (torn A (record { session = off_session; image = m }) (power_up f.whole) f.byte)

-- m after a whole power-up is n after one, outside WORK
abbrev pub SameOnce : Program → Layout → List ℕ → List ℕ → Type 0
SameOnce A y m n =
    (j k : ℕ) → (powered_up A m j).number ≡ 0 → (powered_up A n k).number ≡ 0
    → (i : ℕ) → i < y.work.at → word_at (powered_up A m j).image i ≡ word_at (powered_up A n k).image i

-- m, which is left where k stores count as made, comes to the old words or to the new ones; no power-up of it that lasts for 257 stores
-- (255 words, the count 0 and the CRC-16) is refused or cut
pub record Unbroken (A : Program) (y : Layout) (t : Tag) (c : Storing) (n enough k : ℕ) (m : List ℕ) : Type 0 where
  pub old : k ≤ 2 * n → SameOnce A y m t.image
  pub new : 2 * n < k → SameOnce A y m (A t (lasting c enough)).image
  pub starts : (u : ℕ) → 257 ≤ u → (powered_up A m u).number ≡ 0

-- it makes 3n + 2 stores for its words, which rise; the two images to compare with have a whole power-up; and cut anywhere it is unbroken
pub record Survives (A : Program) (y : Layout) (t : Tag) (c : Storing) (n enough : ℕ) : Type 0 where
  pub stores : (A t (lasting c enough)).stores ≡ 3 * n + 2
  pub rising : Rising (words_in t (lasting c enough))
  pub never : (u : ℕ) → 257 ≤ u → (powered_up A t.image u).number ≡ 0
  pub finished : (u : ℕ) → 257 ≤ u → (powered_up A (A t (lasting c enough)).image u).number ≡ 0
  pub cut : (f : Cut) (fs : List Cut) → Unbroken A y t c n enough (reaches y f) (power_ups A fs (torn A t (lasting c f.whole) f.byte))

abbrev pub Demand3 : Program → Type 0
Demand3 A = (y : Layout) (t : Tag) (c : Storing) (n enough : ℕ) → Completes A y t c n enough → Survives A y t c n enough

-- And through any run of commands, SPI transfers, cuts and power-ups from such an image, with any inputs and any sessions:
-- from any point of the run to any later one the image stays good, header and TID stay, no permalock is taken off, the pwd bit of a
-- permalocked pair stays, a killed tag stays killed, and no USER word of a permalocked block changes.
pub record Kept (y : Layout) (m n : List ℕ) : Type 0 where
  pub sound : check_of n ≡ good y
  pub header : (i : ℕ) → i < 16 → word_at n i ≡ word_at m i
  pub tid : (i : ℕ) → y.tid.at ≤ i → i < end y.tid → word_at n i ≡ word_at m i
  pub locks : (k : ℕ) → k < 5 → perma_bit (lock_word y m) k ≡ 1 → perma_bit (lock_word y n) k ≡ 1
  pub pairs : (k : ℕ) → k < 5 → perma_bit (lock_word y m) k ≡ 1 → pwd_bit (lock_word y n) k ≡ pwd_bit (lock_word y m) k
  pub killed : killed_word y m ≡ 1 → killed_word y n ≡ 1
  pub blocks : (b : ℕ) → b < blocks_in y → permalock y m b ≡ 1 → permalock y n b ≡ 1
  pub words : (i : ℕ) → i < y.user.words → permalock y m (i / y.block) ≡ 1 → word_at n (y.user.at + i) ≡ word_at m (y.user.at + i)

abbrev pub AnyRun : Program → Type 0
AnyRun A = (y : Layout) (m : List ℕ) (before later : List Turn) → Bytes m → Idle y m
    → Kept y (run_image A m before) (run_image A m (before ++ later))

-- The buyer's own words, "a word store is whole or absent", are the case where no word is torn: `whole_words` and `whole-runs` in
-- proofs/Whole derive it.

-- the image after power-ups with power for ks stores, and after a run of calls
abbrev pub whole_power_ups : Program → List ℕ → List ℕ → List ℕ
whole_power_ups A [] m = m
whole_power_ups A (k ∷ ks) m = whole_power_ups A ks (powered_up A m k).image

abbrev pub whole_run : Program → List ℕ → List (Session × Call) → List ℕ
whole_run A m [] = m
whole_run A m (c ∷ cs) = whole_run A (image_after A (record { session = c.0; image = m }) c.1) cs

abbrev pub WholeWords : Program → Type 0
WholeWords A =
    (y : Layout) (t : Tag) (c : Storing) (n enough : ℕ) → Completes A y t c n enough
    → (s : ℕ) (ks : List ℕ) → let r = A t (lasting c s) in Unbroken A y t c n enough r.stores (whole_power_ups A ks r.image)

abbrev pub WholeRuns : Program → Type 0
WholeRuns A =
    (y : Layout) (m : List ℕ) (before later : List (Session × Call)) → Bytes m → Idle y m
    → Kept y (whole_run A m before) (whole_run A m (before ++ later))
