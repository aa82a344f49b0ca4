-- What a host means: which error numbers are live, and what it tells of each.
use Rattle.std.specs.Prelude.{◌≡◌, ℕ, ◌<◌, ◌≤◌, true, cond, List, ◌++◌, length, drop, is_some, Some, None, Ok, Err, Option, Result, nat_le}
use Rattle.vocabulary.specs.Kind.{sourceless}
use Rattle.vocabulary.specs.declared.kind.Kind.{Kind}
use Rattle.vocabulary.specs.declared.fault.HostFault.{HostFault}
use Rattle.vocabulary.specs.declared.fault.HostFault.TheVariants.{NotLive, TextTooLong}

-- what a host tells of a live error
pub record Error : Type 0 where
  pub kind : Kind
  pub text : List ℕ
  pub source : Option ℕ

-- a host's meaning: what it tells of each number, none where the number is not live
abbrev pub Errors : Type 0
Errors = ℕ → Option Error

abbrev pub Live : Errors → ℕ → Type 0
Live h e = is_some (h e) ≡ true

-- the rules that every host keeps
pub record Lawful (h : Errors) (span : ℕ) : Type 0 where
  pub small : span ≤ 65536
  pub within : (e : ℕ) (m : Error) → h e ≡ Some m → e < span
  pub short : (e : ℕ) (m : Error) → h e ≡ Some m → length m.text ≤ 255
  pub bare : (e : ℕ) (m : Error) → h e ≡ Some m → sourceless m.kind ≡ true → m.source ≡ None
  pub falls : (e d : ℕ) (m : Error) → h e ≡ Some m → m.source ≡ Some d → d < e
  pub lives : (e d : ℕ) (m : Error) → h e ≡ Some m → m.source ≡ Some d → Live h d

-- a host that has gained errors: all that it had is there, and as it was
abbrev pub Extends : Errors → Errors → Type 0
Extends before after = (e : ℕ) (m : Error) → before e ≡ Some m → after e ≡ Some m

-- the answer to a question about an error: what is told of it, or the refusal where it is not live
abbrev pub answer : {A : Type 0} → Option Error → ℕ → (Error → A) → Result A HostFault
answer None e f = Err (NotLive e)
answer (Some m) e f = Ok (f m)

-- the answer to the question for a text, where the part to fill has `room` bytes: the text's length
abbrev pub text_answer : Option Error → ℕ → ℕ → Result ℕ HostFault
text_answer None e room = Err (NotLive e)
text_answer (Some m) e room = cond (nat_le (length m.text) room) (Ok (length m.text)) (Err (TextTooLong (length m.text)))

-- the part afterwards: the text stands at its front and the rest is as it was; where the question is refused, all is
abbrev pub text_filled : Option Error → List ℕ → List ℕ
text_filled None part = part
text_filled (Some m) part = cond (nat_le (length m.text) (length part)) (m.text ++ drop (length m.text) part) part
