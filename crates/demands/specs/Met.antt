-- Nothing vacuous: the hypotheses of each demand are met on the worked image, computed (RULES 7.4). Assumes nothing.
use Rattle.std.specs.Prelude.{ℕ, ◌+◌, ◌*◌, ◌/◌, ◌%◌, ◌^◌, ◌≤◌, ◌<◌, ◌≡◌, refl, ◌≢◌, true, false, not, ◌||◌, List, [], ◌∷◌, eqb, ltb, length, replicate}
use Rattle.std.proofs.Common.{sym, ap, ◌∙◌, inl, inr, ⊎_elim, arith, lit<, lit≤, eqb-true, ltb-true, eq-eqb}
use Rattle.std.proofs.lemmas.Bool.{false≢true}
use Rattle.bits.specs.Words.{Bytes, word_at, with_word, Store, store}
use Rattle.bits.specs.Bits.{bit_at, field_at, bits_of, words_bits}
use Rattle.bits.specs.Below.{below, every}
use Rattle.bits.proofs.Below.{every-at, or_cases}
use Rattle.bits.proofs.Words.{are-bytes}
use Rattle.crc.specs.Crc.{crc_of}
use Rattle.crc.specs.Crc5.{crc5_of}
use Rattle.ebv.specs.Ebv.{pointer_at}
use Rattle.image.specs.Layout.{layout_of, header_good, blocks_in}
use Rattle.image.specs.Content.{lock_word, permalock, rules_hold, content_good}
use Rattle.image.specs.Check.{check_of}
use Rattle.image.specs.Worked.{worked, worked_layout}
use Rattle.frames.specs.declared.Round.{Round}
use Rattle.frames.specs.declared.Choice.{Choice}
use Rattle.frames.specs.declared.Order.{Order}
use Rattle.frames.specs.declared.Order.TheVariants as order
use Rattle.frames.specs.Frames.{span, heard_of, checksum_right, checksum5_right}
use Rattle.replies.specs.declared.Reply.{Reply}
use Rattle.replies.specs.declared.Reply.TheVariants as reply
use Rattle.replies.specs.Pack.{filled, packed}
use Rattle.replies.specs.Replies.{checked}
use Rattle.rights.specs.Rights.{pwd_bit, perma_bit, read_code, write_code, locked_to, lock_code, perma_read_code, perma_code}
use Rattle.stores.specs.Stores.{power_stores}
use Rattle.stores.specs.Worked.{worked-bytes}
use Rattle.tag.specs.declared.Answer.TheVariants as answer
use Rattle.states.specs.declared.Flags.{Flags}
use Rattle.states.specs.declared.State.{State}
use Rattle.states.specs.declared.State.TheVariants as state
use Rattle.tag.specs.declared.Outcome.{Outcome}
use Rattle.states.specs.Commands.{state_number, plain_link, access_word, kill_word}
use Rattle.states.specs.Inventory.{with_flag}
use Rattle.tag.specs.Session.{new_flags}
use Rattle.tag.specs.Power.{power_up_of}
use Rattle.tag.specs.Table.{frame_of}
use Rattle.tag.specs.Port.{write_of}
use Rattle.demands.specs.Calls.{Tag, frame, answer_of, Meets, Idle}
use Rattle.demands.specs.Demands.{by_port, lasting, Completes}
use Rattle.demands.specs.Facts.{Readable, Writable, Lockable, PermaLockable, PortWrites, Slotted, Singled, Numbered, FirstStep, Matches, Adjusts, CountsDown, Selected, Takeable}
use Rattle.demands.specs.Commands.{Air, Says, Enough, words_to}
use Rattle.demands.specs.Worked.{query0, req_rn, write3, read_two, round, used_up}
use Rattle.demands.specs.Rounds.{query_b, rep, up, same, down, ack_beef, select_epc, select_epc_other}
use Rattle.demands.specs.Torn.{tag, p7}
use Rattle.demands.specs.Ports.{holding, locked, four_words}
use Rattle.tag.specs.Result.{first_of}

-- further frames: handle 1234h, cover number 5A5Ah. Req_RN with the handle
unfoldable pub req_cover : List ℕ
req_cover = 0xC1 ∷ 0x12 ∷ 0x34 ∷ 0x31 ∷ 0x62 ∷ []

-- Kill, the halves 4B49h and 4C4Ch
unfoldable pub kill1 : List ℕ
kill1 = 0xC4 ∷ 0x11 ∷ 0x13 ∷ 0x02 ∷ 0x46 ∷ 0x8D ∷ 0x0D ∷ 0xE0 ∷ []

unfoldable pub kill2 : List ℕ
kill2 = 0xC4 ∷ 0x16 ∷ 0x16 ∷ 0x02 ∷ 0x46 ∷ 0x9D ∷ 0xC4 ∷ 0x40 ∷ []

-- Access, the half 0000h
unfoldable pub access : List ℕ
access = 0xC6 ∷ 0x5A ∷ 0x5A ∷ 0x12 ∷ 0x34 ∷ 0x87 ∷ 0x97 ∷ []

-- Lock: EPC pwd set
unfoldable pub lock1 : List ℕ
lock1 = 0xC5 ∷ 0x08 ∷ 0x02 ∷ 0x01 ∷ 0x23 ∷ 0x4A ∷ 0x9F ∷ 0x70 ∷ []

-- BlockWrite and BlockErase of USER 2 and 3
unfoldable pub block2 : List ℕ
block2 = 0xC7 ∷ 0xC0 ∷ 0x80 ∷ 0x84 ∷ 0x44 ∷ 0x48 ∷ 0x88 ∷ 0x84 ∷ 0x8D ∷ 0x36 ∷ 0xDF ∷ 0x80 ∷ []

unfoldable pub erase2 : List ℕ
erase2 = 0xC8 ∷ 0xC0 ∷ 0x80 ∷ 0x84 ∷ 0x8D ∷ 0x00 ∷ 0xE1 ∷ 0xC0 ∷ []

-- BlockPermalock: reads PERMA word 0; locks block 3
unfoldable pub perma_read : List ℕ
perma_read = 0xC9 ∷ 0x00 ∷ 0x60 ∷ 0x00 ∷ 0x22 ∷ 0x46 ∷ 0x90 ∷ 0x65 ∷ 0x80 ∷ []

unfoldable pub perma3 : List ℕ
perma3 = 0xC9 ∷ 0x00 ∷ 0xE0 ∷ 0x00 ∷ 0x22 ∷ 0x00 ∷ 0x02 ∷ 0x46 ∷ 0x8D ∷ 0xFB ∷ 0x00 ∷ []

-- Query of session 2, target A, Q = 4
unfoldable pub query4 : List ℕ
query4 = 0x80 ∷ 0x22 ∷ 0x48 ∷ []

-- a frame to the worked image, with a room of 12 bytes and power for 50 stores
abbrev pub air : List ℕ → ℕ → Air
air f bits = record { image = worked; frame = f; bits = bits; fresh = 0x5678; room = replicate 12 0xAA; power = 50 }

-- it says the order, and its room and power do for the reply and the words
abbrev Comes : List ℕ → ℕ → ℕ → Order → Reply → List Store → Type 0
Comes f bits n o rp ws = Says (air f bits) n o
    × Enough worked_layout (air f bits) (record { state = state.Ready; reply = rp; words = ws })

-- what a Select of SL by 32 bits of EPC from bit 32 on asks for
abbrev chosen : Choice
chosen = record { target = 4; action = 0; bits = span 1 32 32; truncate = 0 }

-- session 2 with Q = 0; S2 at B
abbrev pub once : Round
once = record { session = 2; q = 0 }

abbrev pub s2_b : Flags
s2_b = with_flag new_flags 2 true

-- what a frame call may hand back for P7's Write
abbrev outcome : Outcome
outcome = record { answer = answer.Done; session = used_up; reply = 33; stores = 5; value = 0 }

abbrev holder : Tag
holder = record { session = holding state.Ready false false; image = worked }

-- facts about each word or bit, from a computed test of all
three : ◌≢◌ {A = ℕ} 3 0
three e = omega (arith, e)

writable : (p n pc : ℕ) → p < 16 → p + n ≤ 16 → pwd_bit (lock_word worked_layout worked) 4 ≡ 0
    → every (λ j. eqb (permalock worked_layout worked ((p + j) / 4)) 0) n ≡ true → n ≤ 16 → Writable worked_layout worked false 3 p n pc
writable p n pc a b o e c =
    record {
      within = (a, b);
      right = λ j l. inr (inr (inr (refl, inl o, eqb-true _ _ (every-at (λ j. eqb (permalock worked_layout worked ((p + j) / 4)) 0) n e j l))));
      length = λ t. absurd (omega (arith, t.0));
      few = c;
    }

lockable : every (λ k. not (eqb (perma_bit (lock_word worked_layout worked) k) 1)) 5 ≡ true → Lockable worked_layout worked 0x020 0x020
lockable e =
    record {
      pairs = λ k l q.
          absurd (false≢true (sym (ap not (eq-eqb (perma_bit (lock_word worked_layout worked) k) 1 q)) ∙ every-at (λ k. not (eqb (perma_bit (lock_word worked_layout worked) k) 1)) 5 e k l));
      user = λ f. absurd (f refl);
    }

perma-lockable : every (λ k. eqb (bit_at perma3 (35 + k)) 0 || ltb k 4) 16 ≡ true → pwd_bit (lock_word worked_layout worked) 4 ≡ 0
    → perma_bit (lock_word worked_layout worked) 4 ≡ 0
    → blocks_in worked_layout ≡ 4 → PermaLockable worked_layout worked 0 1 perma3 35
perma-lockable e p q b =
    record {
      within = lit≤ tt;
      blocks = λ k l d.
          (let z : k < 4 =
          ⊎_elim (λ z. absurd (d (eqb-true _ _ z))) (λ z. ltb-true k 4 z) (or_cases (eqb (bit_at perma3 (35 + k)) 0) (ltb k 4) (every-at (λ k. eqb (bit_at perma3 (35 + k)) 0 || ltb k 4) 16 e k l)) in
          omega (arith, b, z));
      user = λ z f. omega (arith, q, f);
    }

port-open : access_word worked_layout worked 0 ≡ 0 → access_word worked_layout worked 1 ≡ 0 → pwd_bit (lock_word worked_layout worked) 4 ≡ 0
    → every (λ j. eqb (permalock worked_layout worked ((2 + j) / 4)) 0) 4 ≡ true → (j : ℕ) → j < 4 → PortWrites worked_layout worked (2 + j)
port-open a b o e j l = (a, b, o, eqb-true _ _ (every-at (λ j. eqb (permalock worked_layout worked ((2 + j) / 4)) 0) 4 e j l))

-- Ready is no state of a tag that was acknowledged
since : {st : State} {q : Round} → Singled st q → 4 ≤ state_number st
since (Singled.acknowledged q n) = lit≤ tt
since (Singled.opened k) = lit≤ tt
since (Singled.secured k) = lit≤ tt

not-singled : (q : Round) → Singled state.Ready q → q.session ≢ 2
not-singled q h e = omega (arith, since h)

alike-bits : every (λ j. eqb (bit_at worked (16 * 22 + 32 + j)) (bit_at select_epc (28 + j))) 32 ≡ true → Selected worked_layout worked select_epc 1 32 32 28
alike-bits e =
    record {
      begins = lit< tt;
      ends = lit≤ tt;
      bits = λ j l. eqb-true _ _ (every-at (λ j. eqb (bit_at worked (16 * 22 + 32 + j)) (bit_at select_epc (28 + j))) 32 e j l);
    }

-- demand 2, the commands of inventory: a frame for each, to a tag in a state that hears it; what it asks of flags, slot, Q and mask
pub record RoundsMet : Type 0 where
  pub first_step : FirstStep state.Ready 2 new_flags new_flags
  pub first_inverts : FirstStep (state.Acknowledged round 0xBEEF) 2 new_flags s2_b
  pub query_waits : Comes query4 22 0 (order.Query 0 0 round) reply.Silence []
  pub query_waits_match : Matches new_flags 0 0 2 × (0x5678 % 2 ^ 4 ≢ 0)
  pub query_replies : Comes query0 22 0 (order.Query 0 0 once) (reply.Drawn 0x5678) []
  pub query_replies_match : Matches new_flags 0 0 2 × (0x5678 % 2 ^ 0 ≡ 0)
  pub query_passes : Comes query_b 22 0 (order.Query 0 1 once) reply.Silence []
  pub query_passes_match : Matches new_flags 0 1 2 → ⊥
  pub adjust_waits : Comes same 9 0 (order.QueryAdjust 2 0) reply.Silence []
  pub adjust_waits_slot : Slotted (state.Arbitrate round 3) round 3 × Adjusts 0 4 4 × (0x5678 % 2 ^ 4 ≢ 0)
  pub adjust_replies : Comes down 9 0 (order.QueryAdjust 2 3) (reply.Drawn 0x5678) []
  pub adjust_replies_slot : Slotted (state.Reply round 0xBEEF) round 0 × Adjusts 3 4 3 × (0x5678 % 2 ^ 3 ≡ 0)
  pub adjust_ends : Comes up 9 0 (order.QueryAdjust 2 6) reply.Silence []
  pub adjust_ends_state : Singled (state.Open (plain_link round 0x1234)) round × Adjusts 6 4 5
  pub rep_waits : Comes rep 4 0 (order.QueryRep 2) reply.Silence []
  pub rep_waits_slot : Slotted (state.Arbitrate round 3) round 3 × CountsDown 3 2 × (◌≢◌ {A = ℕ} 2 0)
  pub rep_wraps_slot : Slotted (state.Reply round 0xBEEF) round 0 × CountsDown 0 0x7FFF × (◌≢◌ {A = ℕ} 0x7FFF 0)
  pub rep_replies : Comes rep 4 0 (order.QueryRep 2) (reply.Drawn 0x5678) []
  pub rep_replies_slot : Slotted (state.Arbitrate round 1) round 1 × CountsDown 1 0
  pub rep_ends_state : Singled (state.Acknowledged round 0xBEEF) round
  pub ack : Comes ack_beef 18 0 (order.Ack 0xBEEF) (reply.Epc 23 3) []
  pub ack_wrong : Comes ack_beef 18 0 (order.Ack 0xBEEF) reply.Silence []
  pub ack_wrong_number : Numbered (state.Secured (plain_link round 0x1234)) round 0x1234 × (◌≢◌ {A = ℕ} 0xBEEF 0x1234)
  pub select_matching : Comes select_epc 77 0 (order.Select chosen 28) reply.Silence []
  pub select_matching_bits : Takeable chosen × Selected worked_layout worked select_epc 1 32 32 28
  pub select_other : Comes select_epc_other 77 0 (order.Select chosen 28) reply.Silence []
  pub select_other_bits : Takeable chosen × (Selected worked_layout worked select_epc_other 1 32 32 28 → ⊥)

pub rounds-met : RoundsMet
unfolding worked word_at with_word words_bits bits_of crc_of crc5_of field_at pointer_at heard_of checksum_right checksum5_right checked query0 query4 query_b same up down rep ack_beef select_epc select_epc_other
rounds-met =
    record {
      first_step = inr (not-singled, refl);
      first_inverts = inl (round, Singled.acknowledged round 0xBEEF, refl, refl);
      query_waits = (refl, (lit≤ tt, lit≤ tt));
      query_waits_match = ((inl (lit< tt), inl (refl, refl)), λ e. omega (arith, e));
      query_replies = (refl, (lit≤ tt, lit≤ tt));
      query_replies_match = ((inl (lit< tt), inl (refl, refl)), refl);
      query_passes = (refl, (lit≤ tt, lit≤ tt));
      query_passes_match = λ h. ⊎_elim (λ p. omega (arith, p.0)) (λ p. false≢true p.1) h.1;
      adjust_waits = (refl, (lit≤ tt, lit≤ tt));
      adjust_waits_slot = (Slotted.arbitrate round 3, inr (inr (inl (refl, refl))), λ e. omega (arith, e));
      adjust_replies = (refl, (lit≤ tt, lit≤ tt));
      adjust_replies_slot = (Slotted.reply round 0xBEEF, inr (inr (inr (inl (refl, lit≤ tt, refl)))), refl);
      adjust_ends = (refl, (lit≤ tt, lit≤ tt));
      adjust_ends_state = (Singled.opened (plain_link round 0x1234), inl (refl, lit< tt, refl));
      rep_waits = (refl, (lit≤ tt, lit≤ tt));
      rep_waits_slot = (Slotted.arbitrate round 3, inr refl, λ e. omega (arith, e));
      rep_wraps_slot = (Slotted.reply round 0xBEEF, inl (refl, refl), λ e. omega (arith, e));
      rep_replies = (refl, (lit≤ tt, lit≤ tt));
      rep_replies_slot = (Slotted.arbitrate round 1, inr refl);
      rep_ends_state = Singled.acknowledged round 0xBEEF;
      ack = (refl, (lit≤ tt, lit≤ tt));
      ack_wrong = (refl, (lit≤ tt, lit≤ tt));
      ack_wrong_number = (Numbered.secured (plain_link round 0x1234), λ e. omega (arith, e));
      select_matching = (refl, (lit≤ tt, lit≤ tt));
      select_matching_bits = ((lit≤ tt, (λ e. omega (arith, e)), refl), alike-bits refl);
      select_other = (refl, (lit≤ tt, lit≤ tt));
      select_other_bits = ((lit≤ tt, (λ e. omega (arith, e)), refl), λ s. let z : ◌≡◌ {A = ℕ} 1 0 = s.bits 31 (lit< tt) in omega arith);
    }

pub record Met : Type 0 where
  -- demand 1: an outcome that meets the promise
  pub one : Meets answer_of tag (frame write3 66 0x1234 (replicate 12 0xAA) 5) outcome (answer_of tag (lasting p7 5)).image (answer_of tag (lasting p7 5)).room
  -- all demands: a good image with nothing pending
  pub idle : Idle worked_layout worked
  -- demand 2: a frame for each command, and no code that applies
  pub rounds : RoundsMet
  pub req_rn_plain : Comes req_rn 40 0xBEEF order.ReqRn (reply.Number 0x5678) []
  pub req_rn_cover : Comes req_cover 40 0x1234 order.ReqRn (reply.Number 0x5678) []
  pub read : Comes read_two 58 0x1234 (order.Read (span 3 2 2)) (reply.Words 30 2 0x1234) []
  pub read_right : Readable worked_layout worked false 3 2 2 2
  pub write : Comes write3 66 0x1234 (order.Write (span 3 3 1) 0xF197) (reply.Success 0x1234) (store 31 0xABCD ∷ [])
  pub write_right : Writable worked_layout worked false 3 3 1 0xABCD
  pub kill_first : Comes kill1 59 0x1234 (order.Kill 0x1113) (reply.Number 0x1234) []
  pub kill_password : kill_word worked_layout worked 0 ≢ 0
  pub kill_second : Comes kill2 59 0x1234 (order.Kill 0x1616) (reply.Success 0x1234) (store 17 1 ∷ [])
  pub lock : Comes lock1 60 0x1234 (order.Lock 0x020 0x020) (reply.Success 0x1234) (store 16 0x020 ∷ [])
  pub lock_right : Lockable worked_layout worked 0x020 0x020
  pub access_half : Comes access 56 0x1234 (order.Access 0x5A5A) (reply.Number 0x1234) []
  pub block_write : Comes block2 90 0x1234 (order.BlockWrite (span 3 2 2) 26) (reply.Success 0x1234) (words_to 30 block2 26 2)
  pub block_write_right : Writable worked_layout worked false 3 2 2 0x1111
  pub block_erase : Comes erase2 58 0x1234 (order.BlockErase (span 3 2 2)) (reply.Success 0x1234) (below (λ j. store (30 + j) 0) 2)
  pub block_erase_right : Writable worked_layout worked false 3 2 2 0
  pub permalock_read : Comes perma_read 67 0x1234 (order.ReadPermalock 0 (span 3 0 1)) (reply.Words 44 1 0x1234) []
  pub permalock_read_right : 0 + 1 ≤ worked_layout.perma.words
  pub permalocks : Comes perma3 83 0x1234 (order.Permalock 0 (span 3 0 1) 35) (reply.Success 0x1234) (store 44 0x1000 ∷ [])
  pub permalocks_right : PermaLockable worked_layout worked 0 1 perma3 35
  pub nak : Comes (0xC0 ∷ []) 8 0 order.Nak reply.Silence []
  pub engine : (2 + 4 ≤ worked_layout.user.words) × (length four_words ≡ 8)
  pub engine_words : (j : ℕ) → j < 4 → PortWrites worked_layout worked (2 + j)
  -- demand 3: a Write of one word and an SPI write of four, done; the power-ups after their cuts, whole
  pub radio_done : Completes answer_of worked_layout tag p7 1 5
  pub radio_whole : ((first_of (power_up_of (answer_of tag (lasting p7 2)).image 257)).number ≡ 0)
      × ((first_of (power_up_of (answer_of tag (lasting p7 3)).image 257)).number ≡ 0)
  pub port_done : Completes answer_of worked_layout holder (by_port 2 four_words) 4 14
  pub port_whole : (first_of (power_up_of (answer_of holder (lasting (by_port 2 four_words) 9)).image 257)).number ≡ 0
  -- any run: an image with a permalocked block
  pub locked_block : Bytes locked × Idle worked_layout locked × (permalock worked_layout locked 0 ≡ 1)

pub met : Met
unfolding check_of frame_of write_of power_up_of power_stores layout_of header_good blocks_in content_good rules_hold worked word_at with_word words_bits bits_of crc_of field_at pointer_at heard_of checksum_right filled packed checked read_code write_code locked_to lock_code perma_read_code perma_code req_rn write3 read_two req_cover kill1 kill2 access lock1 block2 erase2 perma_read perma3
met =
    record {
      one = refl;
      idle = record { sound = refl; nothing = refl };
      rounds = rounds-met;
      req_rn_plain = (refl, (lit≤ tt, lit≤ tt));
      req_rn_cover = (refl, (lit≤ tt, lit≤ tt));
      read = (refl, (lit≤ tt, lit≤ tt));
      read_right = record { within = (lit< tt, lit≤ tt); shows = inl (lit≤ tt, refl); right = λ j l. inl three };
      write = (refl, (lit≤ tt, lit≤ tt));
      write_right = writable 3 1 0xABCD (lit< tt) (lit≤ tt) refl refl (lit≤ tt);
      kill_first = (refl, (lit≤ tt, lit≤ tt));
      kill_password = λ e. omega (arith, e);
      kill_second = (refl, (lit≤ tt, lit≤ tt));
      lock = (refl, (lit≤ tt, lit≤ tt));
      lock_right = lockable refl;
      access_half = (refl, (lit≤ tt, lit≤ tt));
      block_write = (refl, (lit≤ tt, lit≤ tt));
      block_write_right = writable 2 2 0x1111 (lit< tt) (lit≤ tt) refl refl (lit≤ tt);
      block_erase = (refl, (lit≤ tt, lit≤ tt));
      block_erase_right = writable 2 2 0 (lit< tt) (lit≤ tt) refl refl (lit≤ tt);
      permalock_read = (refl, (lit≤ tt, lit≤ tt));
      permalock_read_right = lit≤ tt;
      permalocks = (refl, (lit≤ tt, lit≤ tt));
      permalocks_right = perma-lockable refl refl refl refl;
      nak = (refl, (lit≤ tt, lit≤ tt));
      engine = (lit≤ tt, refl);
      engine_words = port-open refl refl refl refl;
      radio_done = record { bytes = worked-bytes; idle = record { sound = refl; nothing = refl }; some = lit≤ tt; done = refl; words = refl };
      radio_whole = (refl, refl);
      port_done = record { bytes = worked-bytes; idle = record { sound = refl; nothing = refl }; some = lit≤ tt; done = refl; words = refl };
      port_whole = refl;
      locked_block = (are-bytes locked refl, record { sound = refl; nothing = refl }, refl);
    }
