-- The edges of the port, computed on the worked image; two wrong answers that the promise of a write rules out. Assumes nothing.
use Rattle.std.specs.Prelude.{ℕ, ◌≡◌, refl, Bool, true, false, List, [], ◌∷◌, take, replicate}
use Rattle.std.proofs.Common.{ap, sym, ◌∙◌, arith}
use Rattle.bits.specs.Words.{word_at, with_word, Store, store, after}
use Rattle.bits.specs.Bits.{bits_of, words_bits}
use Rattle.image.specs.Layout.{layout_of, blocks_in, header_good}
use Rattle.image.specs.Content.{rules_hold, content_good}
use Rattle.image.specs.Worked.{worked, worked_layout, bytes_of}
use Rattle.replies.specs.Pack.{filled, packed}
use Rattle.stores.specs.Stores.{change_stores}
use Rattle.states.specs.declared.State.{State}
use Rattle.states.specs.declared.State.TheVariants as state
use Rattle.tag.specs.declared.Session.{Session}
use Rattle.tag.specs.declared.Outcome.{Outcome}
use Rattle.tag.specs.Session.{off_session, on, new_flags, new_session}
use Rattle.tag.specs.Result.{Result, result_of, first_of, leaves}
use Rattle.tag.specs.Port.{written_words, ask_of, release_of, register_of, read_of, write_of}
use Rattle.tag.specs.Steps.{gives}
use Rattle.demands.specs.Worked.{round, used_up}

-- a session that holds the port, with its register's two bits
abbrev pub holding : State → Bool → Bool → Session
holding st unwritten killed = on new_flags st true (record { unwritten = unwritten; killed = killed })

-- the worked image with block 0 of USER permalocked
abbrev pub locked : List ℕ
locked = with_word worked 44 0x8000

-- four words for USER 2 to 5
abbrev pub four_words : List ℕ
four_words = bytes_of (0x1122 ∷ 0x3344 ∷ 0x5566 ∷ 0x7788 ∷ [])

-- USER 4 and 5 are words 32 and 33 of the image
abbrev pub port_stores : List Store
port_stores =
    store 46 32 ∷ store 47 0x5566
    ∷ store 48 33 ∷ store 49 0x7788
    ∷ store 45 2
    ∷ store 32 0x5566 ∷ store 33 0x7788
    ∷ store 45 0
    ∷ []

pub record Writes : Type 0 where
  pub p12_stores : change_stores 45 (written_words worked_layout locked 2 four_words 4) ≡ port_stores
  pub p12 : first_of (write_of change_stores (holding state.Ready false false) locked 2 four_words 8)
      ≡ gives 0 (holding state.Ready true false) 0 8 (after locked port_stores) []
  pub power_7 : first_of (write_of change_stores (holding state.Ready false false) locked 2 four_words 7)
      ≡ gives 11 off_session 0 7 (after locked (take 7 port_stores)) []
  pub killed : first_of (write_of change_stores (holding state.Killed false false) locked 2 four_words 8)
      ≡ gives 0 (holding state.Killed false true) 0 0 locked []
  pub password : first_of (write_of change_stores (holding state.Ready false false) (with_word worked 21 1) 2 four_words 14)
      ≡ gives 0 (holding state.Ready true false) 0 0 (with_word worked 21 1) []
  pub user_10 : first_of (write_of change_stores (holding state.Ready false false) (with_word worked 16 0x002) 2 four_words 14)
      ≡ gives 0 (holding state.Ready true false) 0 0 (with_word worked 16 0x002) []
  -- all words written: no bit is set, and set bits last
  pub clean : (first_of (write_of change_stores (holding state.Ready false false) worked 2 four_words 14)).session
      ≡ holding state.Ready false false
  pub lasts : (first_of (write_of change_stores (holding state.Ready true false) worked 2 four_words 14)).session
      ≡ holding state.Ready true false
  pub lasts_killed : (first_of (write_of change_stores (holding state.Ready false true) locked 2 four_words 14)).session
      ≡ holding state.Ready true true
  pub lasts_dead : (first_of (write_of change_stores (holding state.Killed true false) locked 2 four_words 8)).session
      ≡ holding state.Killed true true
  -- USER at 01 is open to the port
  pub user_01 : (first_of (write_of change_stores (holding state.Ready false false) (with_word worked 16 0x001) 2 four_words 14)).stores ≡ 14
  pub nothing : first_of (write_of change_stores (holding state.Ready false false) locked 2 [] 8)
      ≡ gives 13 (holding state.Ready false false) 0 0 locked []
  pub odd : first_of (write_of change_stores (holding state.Ready false false) locked 2 (1 ∷ 2 ∷ 3 ∷ []) 8)
      ≡ gives 13 (holding state.Ready false false) 0 0 locked []
  pub last : first_of (write_of change_stores (holding state.Ready false false) worked 12 four_words 13)
      ≡ gives 11 off_session 0 13 (after worked (take 13 (change_stores 45 (written_words worked_layout worked 12 four_words 4)))) []
  pub past : first_of (write_of change_stores (holding state.Ready false false) locked 13 four_words 14)
      ≡ gives 13 (holding state.Ready false false) 0 0 locked []
  pub free : first_of (write_of change_stores (new_session state.Ready) locked 2 four_words 8)
      ≡ gives 6 (new_session state.Ready) 0 0 locked []

pub writes : Writes
unfolding write_of layout_of header_good blocks_in content_good rules_hold worked word_at with_word
writes =
    record {
      p12_stores = refl;
      p12 = refl;
      power_7 = refl;
      killed = refl;
      password = refl;
      user_10 = refl;
      clean = refl;
      lasts = refl;
      lasts_killed = refl;
      lasts_dead = refl;
      user_01 = refl;
      nothing = refl;
      odd = refl;
      last = refl;
      past = refl;
      free = refl;
    }

pub record Reads : Type 0 where
  pub shows : first_of (read_of (holding state.Ready false false) worked 2 2 (replicate 5 0xFF))
      ≡ gives 0 (holding state.Ready false false) 32 0 worked (0 ∷ 6 ∷ 0 ∷ 10 ∷ 0xFF ∷ [])
  pub killed : first_of (read_of (holding state.Killed false false) worked 2 2 (replicate 5 0xFF))
      ≡ gives 0 (holding state.Killed false true) 32 0 worked (0 ∷ 0 ∷ 0 ∷ 0 ∷ 0xFF ∷ [])
  pub nothing : first_of (read_of (holding state.Ready false false) worked 2 0 [])
      ≡ gives 13 (holding state.Ready false false) 0 0 worked []
  pub past : first_of (read_of (holding state.Ready false false) worked 15 2 [])
      ≡ gives 13 (holding state.Ready false false) 0 0 worked []
  pub over_255 : first_of (read_of (holding state.Ready false false) worked 0 256 [])
      ≡ gives 13 (holding state.Ready false false) 0 0 worked []
  pub no_room : first_of (read_of (holding state.Ready false false) worked 2 2 (replicate 3 0xFF))
      ≡ gives 4 (holding state.Ready false false) 0 0 worked (replicate 3 0xFF)

pub reads : Reads
unfolding read_of layout_of header_good blocks_in content_good rules_hold worked word_at with_word bits_of words_bits packed filled
reads = record { shows = refl; killed = refl; nothing = refl; past = refl; over_255 = refl; no_room = refl }

-- the register after P12: 2, then 0; it is told only to the holder
pub record Registers : Type 0 where
  pub once : first_of (register_of (holding state.Ready true false))
      ≡ record { number = 0; session = holding state.Ready false false; reply = 0; stores = 0; value = 2; image = []; room = [] }
  pub again : first_of (register_of (holding state.Ready false false))
      ≡ record { number = 0; session = holding state.Ready false false; reply = 0; stores = 0; value = 0; image = []; room = [] }
  pub both : (first_of (register_of (holding state.Killed true true))).value ≡ 3
  pub free : first_of (register_of (new_session state.Ready)) ≡ leaves 6 (new_session state.Ready) [] []
  pub granted : first_of (ask_of (new_session state.Ready)) ≡ leaves 0 (holding state.Ready false false) [] []
  -- in a round too, until it is Open or Secured
  pub arbitrate : first_of (ask_of (new_session (state.Arbitrate round 3))) ≡ leaves 0 (holding (state.Arbitrate round 3) false false) [] []
  pub reply : first_of (ask_of (new_session (state.Reply round 0xBEEF))) ≡ leaves 0 (holding (state.Reply round 0xBEEF) false false) [] []
  pub acknowledged : first_of (ask_of (new_session (state.Acknowledged round 0xBEEF))) ≡ leaves 0 (holding (state.Acknowledged round 0xBEEF) false false) [] []
  pub linked : first_of (ask_of used_up) ≡ leaves 6 used_up [] []
  pub held : first_of (ask_of (holding state.Ready true false)) ≡ leaves 6 (holding state.Ready true false) [] []
  pub released : first_of (release_of (holding state.Ready false false)) ≡ leaves 0 (new_session state.Ready) [] []
  pub off : first_of (ask_of off_session) ≡ leaves 5 off_session [] []

pub registers : Registers
unfolding register_of ask_of release_of
registers =
    record { once = refl; again = refl; both = refl; free = refl; granted = refl; arbitrate = refl; reply = refl; acknowledged = refl; linked = refl; held = refl; released = refl; off = refl }

-- a write of USER 2 to 5 that is refused whole for its locked words, whatever it answers; and one that says 5 stores were made
pub never-refused : (o : Outcome) → result_of o locked []
    ≡ first_of (write_of change_stores (holding state.Ready false false) locked 2 four_words 8) → ⊥
unfolding worked word_at with_word
never-refused o e = let z : ◌≡◌ {A = ℕ} 24 0x5566 = ap (λ (r : Result). word_at r.image 32) (e ∙ writes.p12) in omega arith

pub never-five : (o : Outcome) (m : List ℕ) → o.stores ≡ 5 → result_of o m []
    ≡ first_of (write_of change_stores (holding state.Ready false false) locked 2 four_words 8) → ⊥
never-five o m h e = let z : ◌≡◌ {A = ℕ} 5 8 = sym h ∙ ap (λ (r : Result). r.stores) (e ∙ writes.p12) in omega arith
