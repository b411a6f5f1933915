-- Demand 1: each promise allows one outcome, and each answer leaves what the table says. Assumes nothing.
use Prim.Native.Nat.{ℕ, ◌≤◌, ◌<◌}
use mathlib.Core.Path.{◌≡◌, refl, sym, ap, subst, ◌∙◌}
use mathlib.Core.Logic.{inl, inr, ⊎_elim}
use mathlib.Core.Bool.{false≢true, Bool, true, false, cond, ◌&&◌}
use mathlib.Core.List.{List, [], ◌∷◌}
use native.Mathlib.Omega.{arith}
use lib.Dec.{eqb, leb, ltb, lit≤}
use lib.ListN.{length, take}
use borrow.Author.Tests.{eqb-true, eqb-false, leb-true, ltb-true, eq-eqb, ne_eqb, lt-ltb, le-ltb}
use Rattle.bits.specs.Words.{after}
use Rattle.bits.specs.Bits.{words_bits}
use Rattle.bits.specs.First.{first}
use Rattle.bits.proofs.Below.{and_right, or_cases}
use Rattle.image.specs.Layout.{layout_of, within, header_good}
use Rattle.image.specs.Content.{content_good}
use Rattle.image.specs.Rules.{Header, Good}
use Rattle.image.proofs.Rules.{header-both}
use Rattle.image.proofs.Answers.{check-good, good-check}
use Rattle.image.specs.declared.Refusal.TheVariants as unfit
use Rattle.image.specs.Check.{Verdict, check_of, Checked, refused, good, meaning}
use Rattle.replies.specs.declared.Reply.{Reply}
use Rattle.replies.specs.declared.Reply.TheVariants as reply
use Rattle.replies.specs.Replies.{reply_bits, reply_length}
use Rattle.replies.specs.Pack.{packed}
use Rattle.replies.proofs.Laws.{packed_none}
use Rattle.rights.specs.Rights.{Code}
use Rattle.std.specs.Prelude.{Ok, Err}
use Rattle.rights.specs.declared.Fault.TheVariants as fault
use Rattle.tag.specs.declared.Session.{Session}
use Rattle.tag.specs.Session.{off_session}
use Rattle.tag.specs.Result.{Result, leaves, first_of}
use Rattle.tag.specs.One.{one-outcome}
use Rattle.states.specs.Commands.{link_of, is_killed, used}
use Rattle.tag.specs.Power.{power_up_of}
use Rattle.tag.specs.Table.{Input, state_of, live, moved_to, live_of, is_error, effect, reply_or, reply_of, fits, dropped, replied, frame_of}
use Rattle.tag.specs.Steps.{input}
use Rattle.stores.specs.Stores.{change_stores}
use Rattle.tag.specs.Port.{ask_of, release_of, register_of, read_bits, read_of, write_of}
use Rattle.demands.specs.Calls.{Call, power_up, frame, ask, release, register, read, write, Tag, answer_of, session_in, image_in, room_in, power_in, stores_in, value_in, answers_in}
use Rattle.demands.specs.Demands.{refuses, falls_back, AnErrorCode, Tabled, Checks, order_in, numbers_of, Under, Exact, Demand1}
use Rattle.demands.proofs.Rows.{Rows, Each, first-each}
use Rattle.demands.proofs.Bounds.{bounds-so}

refusal-small : (n : ℕ) → refuses n ≡ true → n ≤ 14
refusal-small n e =
    ⊎_elim (λ a. omega (arith, leb-true n 9 (and_right (leb 1 n) (leb n 9) a))) (λ a. omega (arith, eqb-true n 13 a)) (or_cases (within 1 9 n) (eqb n 13) e)

-- a reply of no bits changes no byte
silence : (m room : List ℕ) (r : Reply) → reply_length r ≡ 0 → packed (reply_bits m r) room ≡ room
silence m room reply.Silence e = packed_none room
silence m room (reply.Number n) e = absurd (omega arith)
silence m room (reply.Success h) e = absurd (omega arith)
silence m room (reply.Words i k h) e = absurd (omega arith)
silence m room (reply.Error c h) e = absurd (omega arith)
silence m room (reply.Drawn n) e = absurd (omega arith)
silence m room (reply.Epc i k) e = absurd (omega arith)

module _ (t : Tag) (c : Call) where
  -- a refusal, and answer 0
  refusal : (n : ℕ) → refuses n ≡ true → Tabled t c (leaves n (session_in t c) (image_in t c) (room_in c))
  refusal n e =
      record {
        listed = refusal-small n e;
        everything = λ q. refl;
        error = λ q. absurd (other q refl);
        coded = λ q. absurd (other q refl);
        lost = λ q. absurd (other q refl);
        dropped = λ q. absurd (⊎_elim (λ a. other (eqb-true n 12 a) refl) (λ a. other (eqb-true n 14 a) refl) (or_cases (eqb n 12) (eqb n 14) q));
        silent = λ q. refl;
        made = λ q. absurd (other q refl);
        value = sym (ap (λ (b : Bool). cond b (value_in t c) 0) (ne_eqb n 0 (λ q. other q refl)));
      }
    where
      other : {k : ℕ} → n ≡ k → refuses k ≡ false → ⊥
      other q f = false≢true (sym f ∙ sym (ap refuses q) ∙ e)

  zero-answer : (r : Result) → r.number ≡ 0 → (r.reply ≡ 0 → r.room ≡ room_in c) → (r.stores ≡ length (stores_in t c)) × (r.image ≡ after (image_in t c) (stores_in t c)) → r.value ≡ value_in t c → Tabled t c r
  zero-answer r z s k v =
      record {
        listed = omega (arith, z);
        everything = λ q. absurd (false≢true (sym (ap refuses z) ∙ q));
        error = λ q. absurd (omega (arith, z, q));
        coded = λ q. absurd (omega (arith, z, q));
        lost = λ q. absurd (omega (arith, z, q));
        dropped = λ q. absurd (false≢true (sym (ap falls_back z) ∙ q));
        silent = s;
        made = λ q. k;
        value = v ∙ sym (ap (λ (b : Bool). cond b (value_in t c) 0) (eq-eqb r.number 0 z));
      }

  lost-answer : power_in c < length (stores_in t c)
      → Tabled t c (record { number = 11; session = off_session; reply = 0; stores = power_in c; value = 0; image = after (image_in t c) (take (power_in c) (stores_in t c)); room = room_in c })
  lost-answer l =
      record {
        listed = lit≤ tt;
        everything = λ q. absurd (false≢true q);
        error = λ q. absurd (omega arith);
        coded = λ q. absurd (omega arith);
        lost = λ q. (l, refl);
        dropped = λ q. absurd (false≢true q);
        silent = λ q. refl;
        made = λ q. absurd (omega arith);
        value = refl;
      }

-- a frame's rows
module _ (v : Session) (m f : List ℕ) (bits fresh : ℕ) (room : List ℕ) (s : ℕ) where
  tag : Tag
  tag = record { session = v; image = m }

  call : Call
  call = frame f bits fresh room s

  handed : Input
  handed = input v m f bits fresh room s

  -- a code's reply is an error reply, whatever the reply without it
  error-length : (e : Code) (b : Bool) (h : ℕ) (r : Reply) → is_error e && b ≡ true → reply_length (reply_or e h r) ≡ 41
  error-length (Ok u) b h r q = absurd (false≢true q)
  error-length (Err c) b h r q = refl

  error-same : (e : Code) (b : Bool) (h : ℕ) (r : Reply) → is_error e && b ≡ true → reply_or e h r ≡ reply_or e h reply.Silence
  error-same (Ok u) b h r q = absurd (false≢true q)
  error-same (Err c) b h r q = refl

  -- and it is one of the three
  code-known : (e : Code) (b : Bool) → is_error e && b ≡ true → AnErrorCode e
  code-known (Ok u) b q = absurd (false≢true q)
  code-known (Err fault.Other) b q = inl refl
  code-known (Err fault.PastEnd) b q = inr (inl refl)
  code-known (Err fault.NoRight) b q = inr (inr refl)

  error-row : is_error (effect handed).code && fits (reply_of handed) room ≡ true → Tabled tag call (replied handed 10 (moved_to (live handed) (used (state_of handed))) [])
  unfolding tag call handed
  error-row e =
      let c = (effect handed).code in
      let b = fits (reply_of handed) room in
      let d = (effect handed).reply in
      let h = (link_of (state_of handed)).handle in
      record {
        listed = lit≤ tt;
        everything = λ q. absurd (false≢true q);
        error = λ q. (refl, refl, refl, error-length c b h d e, ap (λ (x : Reply). packed (reply_bits m x) room) (error-same c b h d e));
        coded = λ q. code-known c b e;
        lost = λ q. absurd (omega arith);
        dropped = λ q. absurd (false≢true q);
        silent = silence m room (reply_of handed);
        made = λ q. absurd (omega arith);
        value = refl;
      }

  -- a row that falls back: none of the numbers 0, 10 and 11, and none that leaves everything
  dropped-row : (n : ℕ) → n ≤ 14 → refuses n ≡ false → eqb n 0 ≡ false → eqb n 10 ≡ false → eqb n 11 ≡ false → Tabled tag call (dropped handed n)
  unfolding tag call handed
  dropped-row n few every zero ten eleven =
      record {
        listed = few;
        everything = λ q. absurd (false≢true (sym every ∙ q));
        error = λ q. absurd (eqb-false n 10 ten q);
        coded = λ q. absurd (eqb-false n 10 ten q);
        lost = λ q. absurd (eqb-false n 11 eleven q);
        dropped = λ q. refl;
        silent = λ q. refl;
        made = λ q. absurd (eqb-false n 0 zero q);
        value = sym (ap (λ (b : Bool). cond b (value_in tag call) 0) zero);
      }

  frame-rows : Each (Tabled tag call) (frame_of change_stores handed).rows
  unfolding frame_of tag call handed
  frame-rows = (
    λ e. refusal tag call 1 refl,
    (
      λ e. refusal tag call 2 refl,
      (
        λ e. refusal tag call 3 refl,
        (
          λ e. refusal tag call 5 refl,
          (
            λ e. refusal tag call 6 refl,
            (
              λ e. refusal tag call 7 refl,
              (
                λ e. refusal tag call 8 refl,
                (
                  λ e. refusal tag call 9 refl,
                  (λ e. dropped-row 12 (lit≤ tt) refl refl refl refl, (λ e. dropped-row 14 (lit≤ tt) refl refl refl refl, (error-row, (λ e. refusal tag call 4 refl, (λ e. lost-answer tag call (ltb-true _ _ e), tt))))),
                ),
              ),
            ),
          ),
        ),
      ),
    ),
  )

  frame-tabled : Tabled tag call (first_of (frame_of change_stores handed))
  unfolding frame_of tag call handed
  frame-tabled =
      first-each (Tabled tag call) (frame_of change_stores handed).rows (frame_of change_stores handed).done frame-rows
      (zero-answer tag call (frame_of change_stores handed).done refl (silence m room (reply_of handed)) (refl, refl) refl)

-- the rows before a transfer's own
module _ (v : Session) (m : List ℕ) where
  tag_of : Tag
  tag_of = record { session = v; image = m }

  read-tabled : (at count : ℕ) (room : List ℕ) → Tabled tag_of (read at count room) (first_of (read_of v m at count room))
  unfolding read_of words_bits tag_of
  read-tabled at count room =
      let c = read at count room in
      first-each (Tabled tag_of c) (read_of v m at count room).rows (read_of v m at count room).done
      (λ e. refusal tag_of c 1 refl, (λ e. refusal tag_of c 2 refl, (λ e. refusal tag_of c 3 refl, (λ e. refusal tag_of c 5 refl, (λ e. refusal tag_of c 6 refl, (λ e. refusal tag_of c 13 refl, (λ e. refusal tag_of c 4 refl, tt)))))))
      (zero-answer tag_of c _ refl (λ q. no_words (is_killed (live_of v.power).state) count (omega (arith, q))) (refl, refl) refl)
    where
      no_words : (k : Bool) (n : ℕ) → n ≡ 0 → packed (read_bits (layout_of m) m k at n) room ≡ room
      no_words k n e = ap (λ (x : ℕ). packed (read_bits (layout_of m) m k at x) room) e ∙ none k
        where
          none : (k : Bool) → packed (read_bits (layout_of m) m k at 0) room ≡ room
          none true = packed_none room
          none false = packed_none room

  write-tabled : (at : ℕ) (d : List ℕ) (s : ℕ) → Tabled tag_of (write at d s) (first_of (write_of change_stores v m at d s))
  unfolding write_of tag_of
  write-tabled at d s =
      let c = write at d s in
      first-each (Tabled tag_of c) (write_of change_stores v m at d s).rows (write_of change_stores v m at d s).done
      (λ e. refusal tag_of c 1 refl, (λ e. refusal tag_of c 2 refl, (λ e. refusal tag_of c 3 refl, (λ e. refusal tag_of c 5 refl, (λ e. refusal tag_of c 6 refl, (λ e. refusal tag_of c 13 refl, (λ e. lost-answer tag_of c (ltb-true _ _ e), tt)))))))
      (zero-answer tag_of c _ refl (λ q. refl) (refl, refl) refl)

-- calls without an image, and power-up
module _ (t : Tag) where
  ask-tabled : Tabled t ask (first_of (ask_of t.session))
  unfolding ask_of
  ask-tabled =
      first-each (Tabled t ask) (ask_of t.session).rows (ask_of t.session).done
      (λ e. refusal t ask 5 refl, (λ e. refusal t ask 6 refl, tt)) (zero-answer t ask _ refl (λ q. refl) (refl, refl) refl)

  release-tabled : Tabled t release (first_of (release_of t.session))
  unfolding release_of
  release-tabled =
      first-each (Tabled t release) (release_of t.session).rows (release_of t.session).done
      (λ e. refusal t release 5 refl, (λ e. refusal t release 6 refl, tt)) (zero-answer t release _ refl (λ q. refl) (refl, refl) refl)

  register-tabled : Tabled t register (first_of (register_of t.session))
  unfolding register_of
  register-tabled =
      first-each (Tabled t register) (register_of t.session).rows (register_of t.session).done
      (λ e. refusal t register 5 refl, (λ e. refusal t register 6 refl, tt)) (zero-answer t register _ refl (λ q. refl) (refl, refl) refl)

  power-tabled : (s : ℕ) → Tabled t (power_up s) (first_of (power_up_of t.image s))
  unfolding power_up_of
  power-tabled s =
      let c = power_up s in
      first-each (Tabled t c) (power_up_of t.image s).rows (power_up_of t.image s).done
      (λ e. refusal t c 1 refl, (λ e. refusal t c 2 refl, (λ e. refusal t c 3 refl, (λ e. lost-answer t c (ltb-true _ _ e), tt)))) (zero-answer t c _ refl (λ q. refl) (refl, refl) refl)

-- the numbers of a call's rows, and of what is left where none holds
by_rows : (t : Tag) (c : Call) → (numbers_of (answers_in t c).rows ≡ order_in c) × ((answers_in t c).done.number ≡ 0)
unfolding power_up_of frame_of ask_of release_of register_of read_of write_of
by_rows t (power_up s) = (refl, refl)
by_rows t (frame f bits fresh room s) = (refl, refl)
by_rows t ask = (refl, refl)
by_rows t release = (refl, refl)
by_rows t register = (refl, refl)
by_rows t (read at count room) = (refl, refl)
by_rows t (write at d s) = (refl, refl)

first_under : (rs : Rows) (last : Result) → Under rs last (first rs last)
first_under [] last = refl
first_under (r ∷ rs) last = go r.1 refl (first_under rs last)
  where
    go : (b : Bool) → r.1 ≡ b → Under rs last (first rs last) → Under (r ∷ rs) last (cond r.1 r.0 (first rs last))
    go true e u = inl (e, ap (λ (b : Bool). cond b r.0 (first rs last)) e)
    go false e u = inr (e, subst (Under rs last) (ap (λ (b : Bool). cond b r.0 (first rs last)) (sym e)) u)

exact : (t : Tag) (c : Call) → Exact answer_of t c
exact t c =
    record {
      order = (by_rows t c).0;
      zero = (by_rows t c).1;
      under = first_under (answers_in t c).rows (answers_in t c).done;
    }

tabled : (t : Tag) (c : Call) → Tabled t c (answer_of t c)
unfolding tag call handed tag_of
tabled t (power_up s) = power-tabled t s
tabled t (frame f bits fresh room s) = frame-tabled t.session t.image f bits fresh room s
tabled t ask = ask-tabled t
tabled t release = release-tabled t
tabled t register = register-tabled t
tabled t (read at count room) = read-tabled t.session t.image at count room
tabled t (write at d s) = write-tabled t.session t.image at d s

-- what the check answered, from its meaning
fit_of : Checked → Verdict
fit_of (refused n) = Err (cond (eqb n 1) unfit.Short (cond (eqb n 2) unfit.Header unfit.Content))
fit_of (good y) = Ok y

fit-again : (f : Verdict) → fit_of (meaning f) ≡ f
unfolding fit_of
fit-again (Err unfit.Short) = refl
fit-again (Err unfit.Header) = refl
fit-again (Err unfit.Content) = refl
fit-again (Ok y) = refl

checks-so : (m : List ℕ) → Checks m
unfolding check_of
checks-so m =
    record {
      good_so = λ y e. check-good m y e;
      so_good = λ y g. good-check y m g;
      short = λ l. rw (lt-ltb (length m) 32 l);
      header = λ l f. rw (le-ltb (length m) 32 l, no_header f);
      content = λ l h f. rw (le-ltb (length m) 32 l, (header-both (layout_of m) m).1 h, no-content (le-ltb (length m) 32 l) ((header-both (layout_of m) m).1 h) f);
    }
  where
    no_header : (Header (layout_of m) m → ⊥) → header_good (layout_of m) m ≡ false
    no_header f = go (header_good (layout_of m) m) refl
      where
        go : (b : Bool) → header_good (layout_of m) m ≡ b → b ≡ false
        go true e = absurd (f ((header-both (layout_of m) m).0 e))
        go false e = refl

    no-content : ltb (length m) 32 ≡ false → header_good (layout_of m) m ≡ true → (Good (layout_of m) m → ⊥) → content_good (layout_of m) m ≡ false
    no-content s h f = go (content_good (layout_of m) m) refl
      where
        go : (b : Bool) → content_good (layout_of m) m ≡ b → b ≡ false
        go true e = absurd (f (check-good m (layout_of m) (rw (s, h, e))))
        go false e = refl

pub demand-1 : Demand1 answer_of
demand-1 =
    record {
      checks = checks-so;
      check = λ m p q e f. sym (fit-again p) ∙ ap fit_of (e ∙ sym f) ∙ fit-again q;
      one = λ t c p q m n a b e f. one-outcome p q m n a b (answer_of t c) e f;
      table = tabled;
      exact = exact;
      bounds = bounds-so;
    }
