-- The clock.
use Rattle.std.specs.Prelude.{ℕ, ◌+◌, Bool, false, cond, not, ◌&&◌, ◌||◌, List, [], ◌∷◌, ◌++◌, fold, filter, is_none, Some, None, Option, nat_le, nat_lt}
use Rattle.book.specs.declared.posting.Posting.{Posting}
use Rattle.rules.specs.declared.offers.Exposure.{Exposure}
use Rattle.rules.specs.declared.offers.Offer.{Offer}
use Rattle.rules.specs.declared.refusal.Refusal.{Refusal}
use Rattle.rules.specs.declared.refusal.Refusal.TheVariants.{BadClock}
use Rattle.rules.specs.State.{Session, State, showing, posting}
use Rattle.rules.specs.declared.offers.Side.TheVariants.{Buy, Sell}
use Rattle.rules.specs.Board.{Pair}
use Rattle.rules.specs.Refusals.{refuse}
use Rattle.rules.specs.Entering.{exposed}
use Rattle.rules.specs.Closing.{may_trade, close_at, struck}

-- why a tick is refused
abbrev pub tick_rules : State → (clock : ℕ) → List (Option Refusal)
tick_rules s clock = refuse (nat_lt clock s.clock || nat_lt 86399 clock) BadClock ∷ []

-- a tick on its way through the papers: the exposures that closed, those that were void, and the postings
pub record Tick : Type 0 where
  pub state : State
  pub closes : ℕ
  pub voids : ℕ
  pub postings : List Posting

-- the two offers that are shown
abbrev pub exposed_pair : State → Exposure → Pair
exposed_pair s x = record { buy = exposed Buy x s; sell = exposed Sell x s }

-- a paper shows nothing more
abbrev pub quieted : (paper : ℕ) → State → State
quieted paper s = showing paper None s

-- the exposed pair closes for the lesser lots at its price, and the paper is quiet
abbrev pub closed_out : Session → Tick → (paper : ℕ) → Exposure → Tick
closed_out n t paper x =
    let p = exposed_pair t.state x in
    record t {
      state = quieted paper (struck n t.state p x.price);
      closes = t.closes + 1;
      postings = t.postings ++ (posting (close_at n t.state p x.price) ∷ []);
    }

-- or it is void, and the paper is quiet
abbrev pub voided : Tick → (paper : ℕ) → Tick
voided t paper = record t { state = quieted paper t.state; voids = t.voids + 1 }

-- as the pair may trade or not
abbrev pub ended : Session → Tick → (paper : ℕ) → Exposure → Tick
ended n t paper x = cond (may_trade n t.state (exposed_pair t.state x) x.price) (closed_out n t paper x) (voided t paper)

-- an exposure ends when the clock has come to its end
abbrev pub due : Session → Tick → (paper : ℕ) → Option Exposure → Tick
due n t paper None = t
due n t paper (Some x) = cond (nat_le x.end t.state.clock) (ended n t paper x) t

-- the clock is set, and the exposures that are due end, in the order of the papers
abbrev pub ticked : Session → State → (clock : ℕ) → Tick
ticked n s clock =
    fold (λ t paper. due n t paper (t.state.papers paper)) (record { state = record s { clock = clock }; closes = 0; voids = 0; postings = [] })
    (0 ∷ 1 ∷ 2 ∷ 3 ∷ 4 ∷ 5 ∷ 6 ∷ 7 ∷ [])

-- the clock has come to a lapse, if there is one
abbrev pub come : (clock : ℕ) → Option ℕ → Bool
come clock None = false
come clock (Some lapse) = nat_le lapse clock

-- an offer lapses when the clock has come to its lapse and its paper is quiet
abbrev pub lapses : State → Offer → Bool
lapses s o = come s.clock o.lapse && is_none (s.papers o.paper)

-- then offers lapse: these
abbrev pub lapsed : State → List Offer
lapsed s = filter (lapses s) s.offers

-- and the others stay
abbrev pub after_lapses : State → State
after_lapses s = record s { offers = filter (λ o. not (lapses s o)) s.offers }
