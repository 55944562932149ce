-- A run: the rules over a list of calls, given the places that the book has at each.
use Rattle.std.specs.Prelude.{ℕ, List, [], ◌∷◌, ◌++◌, Result}
use Rattle.book.specs.declared.posting.Posting.{Posting}
use Rattle.rules.specs.declared.calls.Answer.{Answer}
use Rattle.rules.specs.declared.calls.Call.{Call}
use Rattle.rules.specs.declared.refusal.Refusal.{Refusal}
use Rattle.rules.specs.State.{Session, State, new}
use Rattle.rules.specs.Steps.{step}

-- a call, and the places that the book has when it is made
pub record Made : Type 0 where
  pub places : ℕ
  pub call : Call

-- all the answers in order, the state at the end, and all the postings in order
pub record Run : Type 0 where
  pub answers : List (Result Answer Refusal)
  pub state : State
  pub postings : List Posting

-- call after call, from a state
abbrev pub run_from : Session → State → List Made → Run
run_from n s [] = record { answers = []; state = s; postings = [] }
run_from n s (made ∷ more) =
    let o = step n made.places s made.call in
    let r = run_from n o.state more in
    record { answers = o.answer ∷ r.answers; state = r.state; postings = o.postings ++ r.postings }

-- from a new session
abbrev pub run : Session → List Made → Run
run n calls = run_from n new calls
