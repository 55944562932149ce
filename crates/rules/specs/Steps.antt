-- A step: from the state and a call to the answer, the next state and the postings made.
use Rattle.std.specs.Prelude.{ℕ, ◌+◌, ◌-◌, ◌^◌, cond, not, ◌||◌, List, [], ◌∷◌, length, is_some, Some, None, Ok, Err, Option, Result, ◌==◌, nat_lt}
use Rattle.book.specs.Sheet.{exchanged}
use Rattle.book.specs.declared.posting.Posting.{Posting}
use Rattle.rules.specs.declared.calls.Answer.{Answer}
use Rattle.rules.specs.declared.calls.Answer.TheVariants.{Done, Entered, Withdrawn, Ticked, Opened, Decided}
use Rattle.rules.specs.declared.calls.Call.{Call}
use Rattle.rules.specs.declared.calls.Call.TheVariants.{Term, Limit, Block, Enter, Withdraw, Tick, Complain, Vote, Decide, Release, Settle}
use Rattle.rules.specs.declared.calls.CaseName.{CaseName}
use Rattle.rules.specs.declared.calls.Entry.{Entry}
use Rattle.rules.specs.declared.closes.Stage.TheVariants.{UnderVote, Settled}
use Rattle.rules.specs.declared.refusal.Refusal.{Refusal}
use Rattle.rules.specs.declared.refusal.Refusal.TheVariants.{NoHouse, OneHouse, NoPaper, LimitOrDays, TermFixed, NoOffer, PaperExposed}
use Rattle.rules.specs.State.{Session, State, put, credit, posting, close_of, staged}
use Rattle.rules.specs.Board.{offer_of, stands, without}
use Rattle.rules.specs.Refusals.{refuse, first}
use Rattle.rules.specs.Entering.{enter_rules, entered}
use Rattle.rules.specs.Ticking.{tick_rules, ticked, lapsed, after_lapses}
use Rattle.rules.specs.Voting.{complain_rules, heard_by, vote_rules, with_vote, hearing_of, votes, decide_rules, annulled, decided, release_rules, released, settle_rules}

-- what an accepted call answers, the state that it leads to, and the postings that it makes
pub record Effect : Type 0 where
  pub answer : Answer
  pub state : State
  pub postings : List Posting

-- what any call answers, the state after it, and the postings that it makes
pub record Outcome : Type 0 where
  pub answer : Result Answer Refusal
  pub state : State
  pub postings : List Posting

-- a refusal gives the state back, and posts nothing
abbrev pub unless : Option Refusal → State → Effect → Outcome
unless None s e = record { answer = Ok e.answer; state = e.state; postings = e.postings }
unless (Some refusal) s e = record { answer = Err refusal; state = s; postings = [] }

-- why days are not set
abbrev pub term_rules : State → (paper days : ℕ) → List (Option Refusal)
term_rules s paper days = refuse (nat_lt 7 paper) NoPaper ∷ refuse (nat_lt 365 days) LimitOrDays ∷ refuse (nat_lt 0 s.accepted) TermFixed ∷ []

-- a call that names two houses
abbrev pub pair_rules : (house other : ℕ) → List (Option Refusal) → List (Option Refusal)
pair_rules house other more = refuse (nat_lt 15 house || nat_lt 15 other) NoHouse ∷ refuse (house == other) OneHouse ∷ more

-- why a limit is not set
abbrev pub limit_rules : Session → State → (granter counterparty pesos : ℕ) → List (Option Refusal)
limit_rules n s granter counterparty pesos =
    pair_rules granter counterparty (refuse (nat_lt pesos ((credit n s).used granter counterparty) || nat_lt (10 ^ 15) pesos) LimitOrDays ∷ [])

-- why an offer is not taken off
abbrev pub withdraw_rules : State → (house offer : ℕ) → List (Option Refusal)
withdraw_rules s house offer =
    let o = offer_of offer s.offers in
    refuse (nat_lt 15 house) NoHouse
    ∷ refuse (not (stands offer s.offers) || not (o.house == house)) NoOffer
    ∷ refuse (is_some (s.papers o.paper)) PaperExposed
    ∷ []

-- the rules that a call may break, in order; `places` is how many the book has
abbrev pub rules_of : Session → (places : ℕ) → State → Call → List (Option Refusal)
rules_of n places s (Term paper days) = term_rules s paper days
rules_of n places s (Limit granter counterparty pesos) = limit_rules n s granter counterparty pesos
rules_of n places s (Block house other on) = pair_rules house other []
rules_of n places s (Enter e) = enter_rules n places s e
rules_of n places s (Withdraw house offer) = withdraw_rules s house offer
rules_of n places s (Tick clock) = tick_rules s clock
rules_of n places s (Complain house close jury) = complain_rules s house close jury
rules_of n places s (Vote c juror aye) = vote_rules n s c juror
rules_of n places s (Decide c) = decide_rules n s c
rules_of n places s (Release house close) = release_rules n s house close
rules_of n places s (Settle close) = settle_rules s close

-- the close is posted back: with buyer and seller exchanged
abbrev pub posted_back : State → (close : ℕ) → Posting
posted_back s close = exchanged (posting (close_of s close))

-- answers the offer's number and the lots that closed
abbrev pub enter : Session → State → Entry → Effect
enter n s e =
    let w = entered n s e in
    record { answer = Entered (s.accepted + 1) (e.lots - w.offer.lots); state = w.state; postings = w.postings }

-- answers closes, voids and lapses
abbrev pub tick : Session → State → (clock : ℕ) → Effect
tick n s clock =
    let t = ticked n s clock in
    record { answer = Ticked (t.closes, t.voids, length (lapsed t.state)); state = after_lapses t.state; postings = t.postings }

-- answers whether the close is annulled, and both counts; one that is annulled is posted back
abbrev pub decide : State → CaseName → Effect
decide s c =
    let h = hearing_of s c in
    record {
      answer = Decided (annulled h) (votes h h.yes) (votes h h.no);
      state = staged c.close (decided h) s;
      postings = cond (annulled h) (posted_back s c.close ∷ []) [];
    }

-- what a call does that no rule refuses
abbrev pub effect : Session → State → Call → Effect
-- sets a paper's days
effect n s (Term paper days) = record { answer = Done; state = record s { days = put paper days s.days }; postings = [] }
-- sets a line's limit
effect n s (Limit granter counterparty pesos) =
    record { answer = Done; state = record s { limit = put granter (put counterparty pesos (s.limit granter)) s.limit }; postings = [] }
-- sets or lifts a house's block on another
effect n s (Block house other on) = record { answer = Done; state = record s { blocked = put house (put other on (s.blocked house)) s.blocked }; postings = [] }
effect n s (Enter e) = enter n s e
-- takes the offer off, and answers its lots
effect n s (Withdraw house offer) =
    record { answer = Withdrawn (offer_of offer s.offers).lots; state = record s { offers = without offer s.offers }; postings = [] }
effect n s (Tick clock) = tick n s clock
-- puts the close before the jury, and gives out the case
effect n s (Complain house close jury) =
    record { answer = Opened (record { session = n.settings.number; close = close }); state = staged close (heard_by jury s.clock) s; postings = [] }
-- marks the juror's vote
effect n s (Vote c juror aye) = record { answer = Done; state = staged c.close (UnderVote (with_vote (hearing_of s c) juror aye)) s; postings = [] }
effect n s (Decide c) = decide s c
-- frees the house's line of an annulled close
effect n s (Release house close) = record { answer = Done; state = staged close (released (close_of s close) house (close_of s close).stage) s; postings = [] }
-- posts the close back, and frees its lines
effect n s (Settle close) = record { answer = Done; state = staged close Settled s; postings = posted_back s close ∷ [] }

-- a call: the first rule that it breaks refuses it, and else it has its effect
abbrev pub step : Session → (places : ℕ) → State → Call → Outcome
step n places s call = unless (first (rules_of n places s call)) s (effect n s call)
