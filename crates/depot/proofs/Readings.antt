-- What a depot reads of a reply, and of nothing else. Assumes nothing.
use Prim.Native.Nat.{ℕ, ◌*◌, ◌≤◌, ◌<◌}
use mathlib.Core.Path.{◌≡◌, refl, sym, ap, ◌∙◌}
use mathlib.Core.Bool.{true}
use mathlib.Core.List.{List}
use native.Mathlib.Omega.{arith}
use native.Mathlib.Decide.{dec_le}
use lib.ListN.{length, replicate, length-replicate}
use Rattle.bits.specs.Bits.{bits_from}
use Rattle.replies.specs.declared.Reply.{Reply}
use Rattle.replies.specs.declared.Reply.TheVariants as reply
use Rattle.replies.specs.Replies.{reply_bits}
use Rattle.replies.specs.Pack.{packed}
use Rattle.replies.proofs.Laws.{all_shown, bits-reply}
use Rattle.depot.specs.declared.Command.{Command}
use Rattle.depot.specs.Limits.{within}
use Rattle.depot.specs.Reading.{read_of}
use Rattle.readings.specs.Steps.{saying}
use Rattle.depot.specs.Reading.{awaited_by}
use Rattle.depot.specs.Meant.{meant, Replies, Read, Reads}
use Rattle.depot.proofs.Answers.{read_short, read_told}
use Rattle.depot.proofs.Past.{rows_same}
use Rattle.depot.proofs.Told.{as_meant, shown-in, epc-in}
use Rattle.depot.proofs.Only.{only}

module _ (c : Command) (d : List ℕ) (h : ℕ) (inside : within c (length d) ≡ true) (small : h < 65536) where
  past : (n : ℕ) (a b : List ℕ) → bits_from a 0 n ≡ bits_from b 0 n → n ≤ 8 * length a → n ≤ 8 * length b → read_of c d h n a ≡ read_of c d h n b
  past n a b same f g = go (dec_le 16 n)
    where
      go : Dec (16 ≤ n) → read_of c d h n a ≡ read_of c d h n b
      go (no l) = sym (read_short c d h n a inside (omega (arith, l))) ∙ read_short c d h n b inside (omega (arith, l))
      go (yes l) = sym (read_told c d h n a inside l f) ∙ ap saying (rows_same n a b same h l (awaited_by c)) ∙ read_told c d h n b inside l g

  -- both replies in a room that holds them
  apart : (m n : List ℕ) (r s : Reply) → Replies m h (awaited_by c) r → Replies n h (awaited_by c) s → reply_bits m r ≡ reply_bits n s → meant r ≡ meant s
  apart m n r s x y e =
      let room = replicate {A = ℕ} (length (reply_bits m r)) 0 in
      let f : length (reply_bits m r) ≤ 8 * length room = omega (arith, length-replicate {A = ℕ} (length (reply_bits m r)) 0) in
      sym (as_meant c d h inside small m room r x f)
      ∙ ap (λ (bs : List ℕ). read_of c d h (length bs) (packed bs room)) e
      ∙ as_meant c d h inside small n room s y (omega (arith, f, ap length e))

  read_so : Read c d h
  read_so = record { as_meant = as_meant c d h inside small; only = only c d h inside; apart = apart; past = past }

pub reads_so : Reads
reads_so =
    record {
      read_so = read_so;
      its_words = λ m room i k h f. (shown-in m h (packed (reply_bits m (reply.Words i k h)) room) (length (reply_bits m (reply.Words i k h))) i k refl (all_shown (reply_bits m (reply.Words i k h)) room (bits-reply m (reply.Words i k h)) f)).2;
      its_epc = λ m room i k f. (epc-in m 0 (packed (reply_bits m (reply.Epc i k)) room) (length (reply_bits m (reply.Epc i k))) i k refl (all_shown (reply_bits m (reply.Epc i k)) room (bits-reply m (reply.Epc i k)) f)).1;
    }
