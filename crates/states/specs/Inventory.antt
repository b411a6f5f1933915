-- The flags, and what the five commands of inventory make of flags and state (RULES 11.2 to 11.6). Assumes nothing.
use Rattle.std.specs.Prelude.{ℕ, ◌+◌, ◌-◌, ◌*◌, ◌%◌, ◌^◌, Bool, cond, not, ◌&&◌, ◌||◌, List, [], ◌∷◌, eqb, ltb, leb}
use Rattle.bits.specs.Bits.{alike}
use Rattle.bits.specs.First.{first}
use Rattle.image.specs.declared.Layout.{Layout}
use Rattle.frames.specs.declared.Span.{Span}
use Rattle.frames.specs.declared.Choice.{Choice}
use Rattle.frames.specs.declared.Round.{Round}
use Rattle.rights.specs.Rights.{bank_of}
use Rattle.states.specs.declared.Flags.{Flags}
use Rattle.states.specs.declared.State.{State}
use Rattle.states.specs.declared.State.TheVariants as state
use Rattle.states.specs.Commands.{link_of, slot_of, is_reply, was_acknowledged, used}

-- 11.2: the inventoried flags of S0 to S3, set where they are B; and flag 4, SL, set where it is asserted
abbrev pub flag_at : Flags → ℕ → Bool
flag_at f t = cond (eqb t 0) f.s0 (cond (eqb t 1) f.s1 (cond (eqb t 2) f.s2 (cond (eqb t 3) f.s3 f.sl)))

abbrev pub with_flag : Flags → ℕ → Bool → Flags
with_flag f t b =
    record {
      s0 = cond (eqb t 0) b f.s0;
      s1 = cond (eqb t 1) b f.s1;
      s2 = cond (eqb t 2) b f.s2;
      s3 = cond (eqb t 3) b f.s3;
      sl = cond (eqb t 4) b f.sl;
    }

abbrev pub inverted : Flags → ℕ → Flags
inverted f t = with_flag f t (not (flag_at f t))

-- 11.5: Reply with the fresh word as number where the slot is 0, else Arbitrate
abbrev pub drawn : Round → ℕ → ℕ → State
drawn q slot fresh = cond (eqb slot 0) (state.Reply q fresh) (state.Arbitrate q slot)

-- a slot from the low Q bits of the fresh word
abbrev pub slot_from : Round → ℕ → ℕ
slot_from q fresh = fresh % 2 ^ q.q

-- 11.5: Query, first: in Acknowledged, Open and Secured the flag of the round's session is inverted, if the Query's is the same
abbrev pub queried_flags : Flags → State → ℕ → Flags
queried_flags f st k = cond (was_acknowledged st && eqb (link_of st).round.session k) (inverted f k) f

-- then: the tag matches by Sel and SL, and by target and the flag of the Query's session
abbrev pub matches : Flags → ℕ → ℕ → ℕ → Bool
matches f sel t k = (ltb sel 2 || (eqb sel 2 && not f.sl) || (eqb sel 3 && f.sl)) && cond (flag_at f k) (eqb t 1) (eqb t 0)

abbrev pub queried : Flags → ℕ → ℕ → Round → ℕ → State
queried f sel t q fresh = cond (matches f sel t q.session) (drawn q (slot_from q fresh) fresh) state.Ready

-- 11.3: QueryAdjust and QueryRep: in Acknowledged, Open and Secured the flag of the round's session is inverted, and the state is Ready
abbrev pub left_flags : Flags → State → Flags
left_flags f st = cond (was_acknowledged st) (inverted f (link_of st).round.session) f

-- in Arbitrate and Reply: Q up, down or as it is, and the slot drawn anew; the slot counted down, 0 to 7FFFh
abbrev pub adjusted_q : ℕ → ℕ → ℕ
adjusted_q u q = cond (eqb u 6) (cond (ltb q 15) (q + 1) 15) (cond (eqb u 3) (q - 1) q)

abbrev pub adjusted : State → ℕ → ℕ → State
adjusted st u fresh =
    let r = (link_of st).round in
    let q : Round = record { session = r.session; q = adjusted_q u r.q } in
    cond (was_acknowledged st) state.Ready (drawn q (slot_from q fresh) fresh)

abbrev pub counted_down : ℕ → ℕ
counted_down slot = cond (eqb slot 0) 0x7FFF (slot - 1)

abbrev pub repeated : State → ℕ → State
repeated st fresh = cond (was_acknowledged st) state.Ready (drawn (link_of st).round (counted_down (slot_of st)) fresh)

-- 11.6: ACK with the right number: Reply becomes Acknowledged with it, the others stay; the cover number is used up
abbrev pub acknowledged : State → State
acknowledged st = let k = link_of st in cond (is_reply st) (state.Acknowledged k.round k.handle) (used st)

-- 11.4: Select: the mask, from bit p of the frame on, is the bank's bits from the pointer on, and none of it lies past the bank's end
unfoldable pub selects : Layout → List ℕ → List ℕ → Span → ℕ → Bool
selects y m f s p =
    let b = bank_of y s.bank in
    ltb s.pointer (16 * b.words)
    && leb (s.pointer + s.count) (16 * b.words)
    && alike m (16 * b.at + s.pointer) f p s.count

-- what an action makes of the flag t with the value b, where the mask matches and where it does not: `one` asserts SL or makes A, `two`
-- deasserts SL or makes B
abbrev pub flag_after : ℕ → ℕ → Bool → Bool → Bool
flag_after t action match b =
    let one = eqb t 4 in
    let two = not one in
    first
    ((cond match one two, eqb action 0)
    ∷ (cond match one b, eqb action 1)
    ∷ (cond match b two, eqb action 2)
    ∷ (cond match (not b) b, eqb action 3)
    ∷ (cond match two one, eqb action 4)
    ∷ (cond match two b, eqb action 5)
    ∷ (cond match b one, eqb action 6)
    ∷ [])
    (cond match b (not b))

abbrev pub selected_flags : Flags → Choice → Bool → Flags
selected_flags f c match = with_flag f c.target (flag_after c.target c.action match (flag_at f c.target))
