-- What an operation leaves: all that it can change (RULES 7). Assumes nothing.
use Rattle.std.specs.Prelude.{ℕ, Bool, List, length, take}
use Rattle.bits.specs.Words.{Store, after}
use Rattle.bits.specs.First.{first}
use Rattle.replies.specs.Pack.{packed}
use Rattle.tag.specs.declared.Session.{Session}
use Rattle.tag.specs.declared.Outcome.{Outcome}
use Rattle.tag.specs.Session.{off_session, number_of}

-- answer number, session (or S, which stands for it), the reply's length in bits, stores made, the register where it was read, image and
-- room; the last two are [] where there is none
pub record Left (S : Type 0) : Type 0 where
  pub number : ℕ
  pub session : S
  pub reply : ℕ
  pub stores : ℕ
  pub value : ℕ
  pub image : List ℕ
  pub room : List ℕ

abbrev pub Result : Type 0
Result = Left Session

-- an answer with no reply and no store: its number, the session, the image and the room
abbrev pub leaves : ℕ → Session → List ℕ → List ℕ → Result
leaves number session image room =
    record { number = number; session = session; reply = 0; stores = 0; value = 0; image = image; room = room }

-- the same with a reply of k bits, packed into the room; and with stores made
abbrev pub replying : ℕ → List ℕ → Result → Result
replying k bits r =
    let room = packed bits r.room in
    record { number = r.number; session = r.session; reply = k; stores = r.stores; value = r.value; image = r.image; room = room }

abbrev pub storing : List Store → Result → Result
storing ss r =
    let m = after r.image ss in
    record { number = r.number; session = r.session; reply = r.reply; stores = length ss; value = r.value; image = m; room = r.room }

-- answer 11: the first s stores, Off, and no reply
abbrev pub lost : List ℕ → List Store → ℕ → List ℕ → Result
lost image stores s room =
    record { number = 11; session = off_session; reply = 0; stores = s; value = 0; image = after image (take s stores); room = room }

-- an operation's answers: what each row leaves and when, in order; and what is left where none holds
pub record Answers : Type 0 where
  pub rows : List (Result × Bool)
  pub done : Result

abbrev pub first_of : Answers → Result
first_of a = first a.rows a.done

-- an outcome with the image and the room afterwards
abbrev pub result_of : Outcome → List ℕ → List ℕ → Result
result_of o image room =
    let n = number_of o.answer in
    record { number = n; session = o.session; reply = o.reply; stores = o.stores; value = o.value; image = image; room = room }
