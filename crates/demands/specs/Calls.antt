-- The public operations as calls of one tag, and what their promises say of each (RULES 5 and 7.1). Assumes nothing.
use Rattle.std.specs.Prelude.{ℕ, suc, ◌≡◌, Bool, List, [], ◌∷◌}
use Rattle.bits.specs.Words.{Store}
use Rattle.image.specs.declared.Layout.{Layout}
use Rattle.image.specs.Layout.{layout_of}
use Rattle.image.specs.Content.{count_in}
use Rattle.image.specs.Check.{check_of, good}
use Rattle.rights.specs.Rights.{Code}
use Rattle.std.specs.Prelude.{Ok}
use Rattle.stores.specs.Stores.{change_stores, power_stores}
use Rattle.stores.specs.Cuts.{with_byte}
use Rattle.states.specs.declared.Flags.{Flags}
use Rattle.states.specs.declared.State.{State}
use Rattle.tag.specs.declared.Register.{Register}
use Rattle.tag.specs.declared.Session.{Session}
use Rattle.tag.specs.declared.Outcome.{Outcome}
use Rattle.tag.specs.Session.{off_session, on}
use Rattle.tag.specs.Result.{Result, result_of, first_of, Answers}
use Rattle.states.specs.Commands.{is_killed}
use Rattle.tag.specs.Power.{power_up_of}
use Rattle.tag.specs.Table.{live_of, effect, frame_of}
use Rattle.tag.specs.Port.{ask_of, release_of, number_in, register_of, read_of, port_words, write_of}
use Rattle.tag.specs.Steps.{input}

-- what a caller hands over beside the session and the image: a power-up's s; a frame's bytes, bit count, fresh word, room and s; a read's
-- first word, count and room; a write's first word, data and s
pub data Call : Type 0 where
  power_up : ℕ → Call
  frame : List ℕ → ℕ → ℕ → List ℕ → ℕ → Call
  ask : Call
  release : Call
  register : Call
  read : ℕ → ℕ → List ℕ → Call
  write : ℕ → List ℕ → ℕ → Call

-- what a session under power holds beside its state and its port: flags and register
pub record Aside : Type 0 where
  pub flags : Flags
  pub register : Register

-- a session under power: its state, the port held or free, and the rest
abbrev pub awake : State → Bool → Aside → Session
awake st held r = on r.flags st held r.register

-- any session and any image, whether they belong together or not
pub record Tag : Type 0 where
  pub session : Session
  pub image : List ℕ

-- a program: what it answers to a call of a tag
abbrev pub Program : Type 0
Program = Tag → Call → Result

-- its answer to a call with this session and image
abbrev pub tag_of : Session → List ℕ → Tag
tag_of s m = record { session = s; image = m }

abbrev pub asked : Program → Session → List ℕ → Call → Result
asked A s m c = A (tag_of s m) c

-- the table of each operation: its rows, each what it leaves and when, and what is left where none holds
abbrev pub answers_in : Tag → Call → Answers
answers_in t (power_up s) = power_up_of t.image s
answers_in t (frame f bits fresh room s) = frame_of change_stores (input t.session t.image f bits fresh room s)
answers_in t ask = ask_of t.session
answers_in t release = release_of t.session
answers_in t register = register_of t.session
answers_in t (read at count room) = read_of t.session t.image at count room
answers_in t (write at d s) = write_of change_stores t.session t.image at d s

-- what each operation's promise has on its right side: the tag's own answers
abbrev pub answer_of : Program
answer_of t c = first_of (answers_in t c)

-- an outcome with the image and the room afterwards is the program's answer; of the tag's own answers, that is the operation's promise
abbrev pub Meets : Program → Tag → Call → Outcome → List ℕ → List ℕ → Type 0
Meets A t c o image room = result_of o image room ≡ A t c

-- what a call was handed: the session (power-up asks for none), the image and the room ([] where it has none) and s (0 where it stores
-- nothing)
abbrev pub session_in : Tag → Call → Session
session_in t (power_up s) = off_session
session_in t (frame f bits fresh room s) = t.session
session_in t ask = t.session
session_in t release = t.session
session_in t register = t.session
session_in t (read at count room) = t.session
session_in t (write at d s) = t.session

abbrev pub image_in : Tag → Call → List ℕ
image_in t (power_up s) = t.image
image_in t (frame f bits fresh room s) = t.image
image_in t ask = []
image_in t release = []
image_in t register = []
image_in t (read at count room) = t.image
image_in t (write at d s) = t.image

abbrev pub room_in : Call → List ℕ
room_in (power_up s) = []
room_in (frame f bits fresh room s) = room
room_in ask = []
room_in release = []
room_in register = []
room_in (read at count room) = room
room_in (write at d s) = []

abbrev pub power_in : Call → ℕ
power_in (power_up s) = s
power_in (frame f bits fresh room s) = s
power_in ask = 0
power_in release = 0
power_in register = 0
power_in (read at count room) = 0
power_in (write at d s) = s

-- the words that a frame or an SPI write changes where nothing refuses it; and the stores that a call makes where the power lasts
abbrev pub words_in : Tag → Call → List Store
words_in t (power_up s) = []
words_in t (frame f bits fresh room s) = (effect (input t.session t.image f bits fresh room s)).words
words_in t ask = []
words_in t release = []
words_in t register = []
words_in t (read at count room) = []
words_in t (write at d s) = port_words (layout_of t.image) t.image (is_killed (live_of t.session.power).state) at d

abbrev pub stores_in : Tag → Call → List Store
stores_in t (power_up s) = power_stores (layout_of t.image) t.image
stores_in t (frame f bits fresh room s) = change_stores (layout_of t.image).work.at (words_in t (frame f bits fresh room s))
stores_in t ask = []
stores_in t release = []
stores_in t register = []
stores_in t (read at count room) = []
stores_in t (write at d s) = change_stores (layout_of t.image).work.at (words_in t (write at d s))

-- the error code of a frame's command
abbrev pub code_in : Tag → Call → Code
code_in t (power_up s) = (Ok tt)
code_in t (frame f bits fresh room s) = (effect (input t.session t.image f bits fresh room s)).code
code_in t ask = (Ok tt)
code_in t release = (Ok tt)
code_in t register = (Ok tt)
code_in t (read at count room) = (Ok tt)
code_in t (write at d s) = (Ok tt)

-- what it hands back as a value where it is done: the register, 0 where it reads none
abbrev pub value_in : Tag → Call → ℕ
value_in t (power_up s) = 0
value_in t (frame f bits fresh room s) = 0
value_in t ask = 0
value_in t release = 0
value_in t register = number_in (live_of t.session.power).register
value_in t (read at count room) = 0
value_in t (write at d s) = 0

-- the image after a call: it stays where the call has none
abbrev pub image_after : Program → Tag → Call → List ℕ
image_after A t (power_up s) = (A t (power_up s)).image
image_after A t (frame f bits fresh room s) = (A t (frame f bits fresh room s)).image
image_after A t ask = t.image
image_after A t release = t.image
image_after A t register = t.image
image_after A t (read at count room) = (A t (read at count room)).image
image_after A t (write at d s) = (A t (write at d s)).image

-- a call with power for one store more
abbrev pub more : Call → Call
more (power_up s) = power_up (suc s)
more (frame f bits fresh room s) = frame f bits fresh room (suc s)
more ask = ask
more release = release
more register = register
more (read at count room) = read at count room
more (write at d s) = write at d (suc s)

-- the image after a call whose power fails in the middle of a store: as it is, but byte j as with power for one store more
abbrev pub torn : Program → Tag → Call → ℕ → List ℕ
torn A t c j = with_byte j (image_after A t (more c)) (image_after A t c)

-- any run of calls, each with whatever session: cuts are calls whose power does not last, and of the next store one byte may be made
pub record Turn : Type 0 where
  pub session : Session
  pub call : Call
  pub byte : ℕ

abbrev pub run_image : Program → List ℕ → List Turn → List ℕ
run_image A m [] = m
run_image A m (c ∷ cs) = run_image A (torn A (record { session = c.session; image = m }) c.call c.byte) cs

-- a good image of the layout y with nothing pending
pub record Idle (y : Layout) (m : List ℕ) : Type 0 where
  pub sound : check_of m ≡ good y
  pub nothing : count_in y m ≡ 0
