-- Word rights and error codes (RULES 3.18 to 3.22). Assumes nothing.
use Rattle.std.specs.Prelude.{Result, Ok, Err, ℕ, ◌+◌, ◌-◌, ◌*◌, ◌/◌, ◌%◌, ◌^◌, Bool, cond, not, ◌&&◌, ◌||◌, List, [], ◌∷◌, eqb, leb, ltb}
use Rattle.std.specs.Int.Bits.{bit_and, bit_or, bit_xor}
use Rattle.bits.specs.Bits.{bit_at}
use Rattle.bits.specs.Below.{every}
use Rattle.bits.specs.First.{first}
use Rattle.image.specs.declared.Section.{Section}
use Rattle.image.specs.declared.Layout.{Layout}
use Rattle.image.specs.Layout.{blocks_in, pairs_in}
use Rattle.image.specs.Content.{lock_word, length_of, pc_word, permalock}
use Rattle.frames.specs.declared.Span.{Span}
use Rattle.rights.specs.declared.Fault.{Fault}
use Rattle.rights.specs.declared.Fault.TheVariants.{Other, PastEnd, NoRight}

-- the banks by number
abbrev pub bank_of : Layout → ℕ → Section
bank_of y b = cond (eqb b 0) y.reserved (cond (eqb b 1) y.epc (cond (eqb b 2) y.tid y.user))

-- the error codes
abbrev pub fault_number : Fault → ℕ
fault_number Other = 0x00
fault_number PastEnd = 0x03
fault_number NoRight = 0x04

-- an error, or none
abbrev pub Code : Type 0
Code = Result Unit Fault

-- the lock word's pairs: 0 kill, 1 access, 2 EPC, 3 TID, 4 USER from the top, each a pwd bit and a permalock bit
abbrev pub pwd_bit : ℕ → ℕ → ℕ
pwd_bit lock k = lock / 2 ^ (9 - 2 * k) % 2

abbrev pub perma_bit : ℕ → ℕ → ℕ
perma_bit lock k = lock / 2 ^ (8 - 2 * k) % 2

-- 3.18: 00 and 01 are open in Open and Secured, 10 in Secured, 11 never
abbrev pub opens : Bool → ℕ → ℕ → Bool
opens secured lock k = eqb (pwd_bit lock k) 0 || (secured && eqb (perma_bit lock k) 0)

-- the pair that rules over word i of bank b
abbrev pub pair_of : ℕ → ℕ → ℕ
pair_of b i = cond (eqb b 0) (cond (ltb i 2) 0 1) (b + 1)

-- 3.19: RESERVED is read by its pairs; other banks always
abbrev pub may_read : Layout → List ℕ → Bool → ℕ → ℕ → Bool
may_read y m secured b i = not (eqb b 0) || opens secured (lock_word y m) (pair_of b i)

-- block i / B of USER is not permalocked
abbrev pub block_open : Layout → List ℕ → ℕ → Bool
block_open y m i = eqb (permalock y m (i / y.block)) 0

-- TID, EPC word 0 and USER words in a permalocked block are never written
abbrev pub may_write : Layout → List ℕ → Bool → ℕ → ℕ → Bool
may_write y m secured b i =
    opens secured (lock_word y m) (pair_of b i)
    && not (eqb b 2)
    && not (eqb b 1 && eqb i 0)
    && (not (eqb b 3) || block_open y m i)

-- 3.20: the word before which a Read of bank b with WordCount 0 ends: in EPC L + 2, if its pointer p lies below it; else the bank's end
abbrev pub read_end : Layout → List ℕ → ℕ → ℕ → ℕ
read_end y m b p = let l = length_of (pc_word y m) in cond (eqb b 1 && ltb p (l + 2)) (l + 2) (bank_of y b).words

-- the words that a Read of a span shows
abbrev pub span_words : Layout → List ℕ → Span → ℕ
span_words y m s = cond (eqb s.count 0) (read_end y m s.bank s.pointer - s.pointer) s.count

-- a pointer at or beyond the end of the bank b, or words past it
abbrev pub beyond : Section → Span → Bool
beyond b s = leb b.words s.pointer || ltb b.words (s.pointer + s.count)

-- 3.20: the first code that applies to a Read
unfoldable pub read_code : Layout → List ℕ → Bool → Span → Code
read_code y m secured s =
    first
    ((Err PastEnd, beyond (bank_of y s.bank) s)
    ∷ (Err NoRight, not (every (λ j. may_read y m secured s.bank (s.pointer + j)) (span_words y m s)))
    ∷ [])
    (Ok tt)

-- the span takes EPC word 1, the PC, and pc would stand there with a length that the bank can't hold
abbrev pub bad_pc : Layout → Span → ℕ → Bool
bad_pc y s pc = eqb s.bank 1 && leb s.pointer 1 && ltb 1 (s.pointer + s.count) && ltb y.epc.words (length_of pc + 2)

-- 3.20: the first code that applies to a Write, BlockWrite or BlockErase; pc is what would stand in EPC word 1
unfoldable pub write_code : Layout → List ℕ → Bool → Span → ℕ → Code
write_code y m secured s pc =
    first
    ((Err PastEnd, beyond (bank_of y s.bank) s)
    ∷ (Err NoRight, not (every (λ j. may_write y m secured s.bank (s.pointer + j)) s.count))
    ∷ (Err PastEnd, bad_pc y s pc)
    ∷ (Err Other, ltb (pairs_in y) s.count)
    ∷ [])
    (Ok tt)

-- 3.21: the lock word after a Lock: masked bits are the action's
unfoldable pub locked_to : ℕ → ℕ → ℕ → ℕ
locked_to old mask action = bit_or (bit_and old (bit_xor mask 1023)) (bit_and action mask)

-- a permalocked pair would lose its permalock or change its pwd bit
abbrev pub pair_breaks : ℕ → ℕ → ℕ → Bool
pair_breaks old new k = eqb (perma_bit old k) 1 && not (eqb (perma_bit new k) 1 && eqb (pwd_bit new k) (pwd_bit old k))

abbrev pub some_permalock : Layout → List ℕ → Bool
some_permalock y m = not (every (λ i. eqb (permalock y m i) 0) (blocks_in y))

-- USER is at 01
abbrev pub user_open_for_good : ℕ → Bool
user_open_for_good lock = eqb (pwd_bit lock 4) 0 && eqb (perma_bit lock 4) 1

unfoldable pub lock_code : Layout → List ℕ → ℕ → ℕ → Code
lock_code y m mask action =
    let new = locked_to (lock_word y m) mask action in
    first
    ((Err NoRight, not (every (λ k. not (pair_breaks (lock_word y m) new k)) 5))
    ∷ (Err NoRight, not (eqb (mask % 4) 0) && user_open_for_good new && some_permalock y m)
    ∷ [])
    (Ok tt)

-- 3.22: BlockPermalock. Pointer and count are of PERMA words
abbrev pub not_perma : Layout → Span → Bool
not_perma y s = not (eqb s.bank 3) || ltb y.perma.words (s.pointer + s.count)

unfoldable pub perma_read_code : Layout → Span → Code
perma_read_code y s = first ((Err PastEnd, not_perma y s) ∷ []) (Ok tt)

-- the mask stands in the frame f from bit p on; bit k is for block 16 * pointer + k
unfoldable pub perma_code : Layout → List ℕ → Span → List ℕ → ℕ → Code
perma_code y m s f p =
    first
    ((Err PastEnd, not_perma y s)
    ∷ (Err PastEnd, not (every (λ k. eqb (bit_at f (p + k)) 0 || ltb (16 * s.pointer + k) (blocks_in y)) (16 * s.count)))
    ∷ (Err NoRight, user_open_for_good (lock_word y m))
    ∷ [])
    (Ok tt)
