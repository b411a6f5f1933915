-- The rights and codes of the rules as facts (RULES 3.18 to 3.22, and 4.4 of the port): what must hold so that no error code applies; and
-- what the commands of inventory ask (RULES 11). Assumes nothing.
use Rattle.std.specs.Prelude.{ℕ, zero, suc, ◌+◌, ◌*◌, ◌/◌, ◌%◌, ◌^◌, ◌≤◌, ◌<◌, ◌≡◌, ◌≢◌, ◌⊎◌, Bool, true, false, cond, not, List, [], ◌∷◌, ◌++◌}
use Rattle.bits.specs.Words.{Store}
use Rattle.bits.specs.Bits.{bit_at}
use Rattle.image.specs.declared.Layout.{Layout}
use Rattle.image.specs.Layout.{blocks_in, pairs_in}
use Rattle.image.specs.Content.{lock_word, length_of, pc_word, permalock}
use Rattle.frames.specs.declared.Round.{Round}
use Rattle.frames.specs.declared.Choice.{Choice}
use Rattle.rights.specs.Rights.{bank_of, pwd_bit, perma_bit, locked_to}
use Rattle.states.specs.declared.Flags.{Flags}
use Rattle.states.specs.declared.Link.{Link}
use Rattle.states.specs.declared.State.{State}
use Rattle.states.specs.declared.State.TheVariants as state
use Rattle.states.specs.Commands.{access_word}
use Rattle.states.specs.Inventory.{flag_at, with_flag}

-- 3.18: pair k of the lock word, pwd and permalock: 00 and 01 are open in Open and Secured, 10 in Secured, 11 never
abbrev pub Opens : Bool → ℕ → ℕ → Type 0
Opens secured lock k = (pwd_bit lock k ≡ 0) ⊎ ((secured ≡ true) × (perma_bit lock k ≡ 0))

-- 3.19: RESERVED is read by the kill pair, words 0 and 1, and the access pair, all others; other banks always
abbrev pub MayRead : Layout → List ℕ → Bool → ℕ → ℕ → Type 0
MayRead y m secured b i = let l = lock_word y m in (b ≢ 0) ⊎ ((i < 2) × Opens secured l 0) ⊎ ((2 ≤ i) × Opens secured l 1)

-- RESERVED is written by the same pairs, EPC and USER by their own; EPC word 0, TID and USER words of a permalocked block never
abbrev pub MayWrite : Layout → List ℕ → Bool → ℕ → ℕ → Type 0
MayWrite y m secured b i =
    let l = lock_word y m in
    ((b ≡ 0) × (i < 2) × Opens secured l 0)
    ⊎ ((b ≡ 0) × (2 ≤ i) × Opens secured l 1)
    ⊎ ((b ≡ 1) × (1 ≤ i) × Opens secured l 2)
    ⊎ ((b ≡ 3) × Opens secured l 4 × (permalock y m (i / y.block) ≡ 0))

-- 3.20: n words of a bank of so many, from word p on, begin and end within it
abbrev pub Within : ℕ → ℕ → ℕ → Type 0
Within words p n = (p < words) × (p + n ≤ words)

abbrev pub Past : ℕ → ℕ → ℕ → Type 0
Past words p n = (words ≤ p) ⊎ (words < p + n)

-- the PC is among n words of bank b from p on
abbrev pub TakesPc : ℕ → ℕ → ℕ → Type 0
TakesPc b p n = (b ≡ 1) × (p ≤ 1) × (1 < p + n)

-- every one of n words from p on may be written
abbrev pub AllRight : Layout → List ℕ → Bool → ℕ → ℕ → ℕ → Type 0
AllRight y m secured b p n = (j : ℕ) → j < n → MayWrite y m secured b (p + j)

-- e is the word before which a Read of bank b with WordCount 0 ends: in EPC L + 2, if its pointer p lies below it; from there on, and in
-- the other banks, the bank's end
abbrev pub Ends : Layout → List ℕ → ℕ → ℕ → ℕ → Type 0
Ends y m b p e = let l = length_of (pc_word y m) in
    ((b ≡ 1) × (p < l + 2) × (e ≡ l + 2)) ⊎ ((b ≡ 1) × (l + 2 ≤ p) × (e ≡ (bank_of y b).words)) ⊎ ((b ≢ 1) × (e ≡ (bank_of y b).words))

-- a Read of n words shows k: those that it asks for, or with WordCount 0 all to where it ends
abbrev pub Shows : Layout → List ℕ → ℕ → ℕ → ℕ → ℕ → Type 0
Shows y m b p n k = ((1 ≤ n) × (k ≡ n)) ⊎ ((n ≡ 0) × Ends y m b p (p + k))

-- a Read of n words that shows k: within the bank, and each of the k may be read
pub record Readable (y : Layout) (m : List ℕ) (secured : Bool) (b p n k : ℕ) : Type 0 where
  pub within : Within (bank_of y b).words p n
  pub shows : Shows y m b p n k
  pub right : (j : ℕ) → j < k → MayRead y m secured b (p + j)

-- words written: within the bank, each with its right, a PC that fits, and at most W of them
pub record Writable (y : Layout) (m : List ℕ) (secured : Bool) (b p n pc : ℕ) : Type 0 where
  pub within : Within (bank_of y b).words p n
  pub right : AllRight y m secured b p n
  pub length : TakesPc b p n → length_of pc + 2 ≤ y.epc.words
  pub few : n ≤ pairs_in y

-- a Lock: permalocked pairs stay; and where it masks a USER bit it does not leave USER at 01 while a block is permalocked
pub record Lockable (y : Layout) (m : List ℕ) (mask action : ℕ) : Type 0 where
  pub pairs : let old = lock_word y m in let new = locked_to old mask action in
      (k : ℕ) → k < 5 → perma_bit old k ≡ 1 → (perma_bit new k ≡ 1) × (pwd_bit new k ≡ pwd_bit old k)
  pub user : let new = locked_to (lock_word y m) mask action in
      mask % 4 ≢ 0 → pwd_bit new 4 ≡ 0 → perma_bit new 4 ≡ 1 → (i : ℕ) → i < blocks_in y → permalock y m i ≡ 0

-- 3.21: each bit of the lock word after a Lock is the action's where the mask has it, else the old one
abbrev pub bit_in : ℕ → ℕ → ℕ
bit_in w t = w / 2 ^ t % 2

pub record LockedBy (old mask action new : ℕ) : Type 0 where
  pub masked : (t : ℕ) → t < 10 → bit_in mask t ≡ 1 → bit_in new t ≡ bit_in action t
  pub kept : (t : ℕ) → t < 10 → bit_in mask t ≡ 0 → bit_in new t ≡ bit_in old t
  pub small : old < 1024 → action < 1024 → new < 1024

-- BlockPermalock: within PERMA; and where it locks, only blocks that exist, and USER not at 01
pub record PermaLockable (y : Layout) (m : List ℕ) (p n : ℕ) (f : List ℕ) (at : ℕ) : Type 0 where
  pub within : p + n ≤ y.perma.words
  pub blocks : (k : ℕ) → k < 16 * n → bit_at f (at + k) ≢ 0 → 16 * p + k < blocks_in y
  pub user : pwd_bit (lock_word y m) 4 ≡ 0 → perma_bit (lock_word y m) 4 ≢ 1

-- 4.4: the port writes a USER word where the access password is 0, USER's pwd bit is 0 and the word's block is not permalocked
abbrev pub PortWrites : Layout → List ℕ → ℕ → Type 0
PortWrites y m i =
    (access_word y m 0 ≡ 0) × (access_word y m 1 ≡ 0) × (pwd_bit (lock_word y m) 4 ≡ 0) × (permalock y m (i / y.block) ≡ 0)

-- a mark tells whether P; and of n words those that are marked, in order
abbrev pub Tells : Bool → Type 0 → Type 0
Tells true P = P
Tells false P = P → ⊥

abbrev pub marked : (ℕ → Bool) → (ℕ → Store) → ℕ → List Store
marked marks word zero = []
marked marks word (suc n) = marked marks word n ++ cond (marks n) (word n ∷ []) []

-- 11.2: states by what they hold: Arbitrate with its slot, or Reply, whose slot is 0
pub data Slotted : State → Round → ℕ → Type 0 where
  arbitrate : (q : Round) (slot : ℕ) → Slotted (state.Arbitrate q slot) q slot
  reply : (q : Round) (n : ℕ) → Slotted (state.Reply q n) q 0

-- Acknowledged, Open and Secured, by their round
pub data Singled : State → Round → Type 0 where
  acknowledged : (q : Round) (n : ℕ) → Singled (state.Acknowledged q n) q
  opened : (k : Link) → Singled (state.Open k) k.round
  secured : (k : Link) → Singled (state.Secured k) k.round

-- Reply, Acknowledged, Open and Secured, by their round and their number or handle
pub data Numbered : State → Round → ℕ → Type 0 where
  reply : (q : Round) (n : ℕ) → Numbered (state.Reply q n) q n
  acknowledged : (q : Round) (n : ℕ) → Numbered (state.Acknowledged q n) q n
  opened : (k : Link) → Numbered (state.Open k) k.round k.handle
  secured : (k : Link) → Numbered (state.Secured k) k.round k.handle

-- every state of a round, Arbitrate to Secured
abbrev pub InRound : State → Round → Type 0
InRound st q = ((slot : ℕ) × Slotted st q slot) ⊎ Singled st q

-- 11.5: a Query of session k, first: in Acknowledged, Open and Secured its flag is inverted, if the round's session is k; else none moves
abbrev pub FirstStep : State → ℕ → Flags → Flags → Type 0
FirstStep st k f g = ((q : Round) × Singled st q × (q.session ≡ k) × (g ≡ with_flag f k (not (flag_at f k))))
    ⊎ (((q : Round) → Singled st q → q.session ≢ k) × (g ≡ f))

-- then the tag matches: by Sel and SL, and by the target, 0 for A and 1 for B, and the flag of the Query's session
abbrev pub Matches : Flags → ℕ → ℕ → ℕ → Type 0
Matches f sel t k = ((sel < 2) ⊎ ((sel ≡ 2) × (f.sl ≡ false)) ⊎ ((sel ≡ 3) × (f.sl ≡ true)))
    × (((t ≡ 0) × (flag_at f k ≡ false)) ⊎ ((t ≡ 1) × (flag_at f k ≡ true)))

-- 11.3: Q by UpDn: 110 one more, at most 15; 000 as it is; 011 one less, at least 0
abbrev pub Adjusts : ℕ → ℕ → ℕ → Type 0
Adjusts u old new = ((u ≡ 6) × (old < 15) × (new ≡ old + 1)) ⊎ ((u ≡ 6) × (15 ≤ old) × (new ≡ 15))
    ⊎ ((u ≡ 0) × (new ≡ old))
    ⊎ ((u ≡ 3) × (1 ≤ old) × (old ≡ new + 1))
    ⊎ ((u ≡ 3) × (old ≡ 0) × (new ≡ 0))

-- a slot counted down by one, 0 to 7FFFh
abbrev pub CountsDown : ℕ → ℕ → Type 0
CountsDown slot next = ((slot ≡ 0) × (next ≡ 0x7FFF)) ⊎ (slot ≡ next + 1)

-- 11.4: a Select's mask, n bits of the frame f from bit `at` on, is the bits of bank b from its bit p on, none of them past the bank's end
pub record Selected (y : Layout) (m f : List ℕ) (b p n at : ℕ) : Type 0 where
  pub begins : p < 16 * (bank_of y b).words
  pub ends : p + n ≤ 16 * (bank_of y b).words
  pub bits : (j : ℕ) → j < n → bit_at m (16 * (bank_of y b).at + p + j) ≡ bit_at f (at + j)

-- a Select that has a flag, S0 to S3 or SL, and a bank, EPC, TID or USER, and asks for no truncation
abbrev pub Takeable : Choice → Type 0
Takeable c = (c.target ≤ 4) × (c.bits.bank ≢ 0) × (c.truncate ≡ 0)
