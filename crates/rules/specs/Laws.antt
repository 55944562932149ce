-- The laws of the rules, in the subject's words.
use Rattle.std.specs.Prelude.{◌≡◌, ℕ, ◌<◌, ◌≤◌, ◌⊎◌, List, [], length, drop, All, Contains, AllPairs, Some, Err, ◌≢◌}
use Rattle.market.specs.Meaning.{Meaning, Dearer}
use Rattle.rules.specs.declared.calls.Call.{Call}
use Rattle.rules.specs.declared.closes.Close.{Close}
use Rattle.rules.specs.declared.offers.Exposure.{Exposure}
use Rattle.rules.specs.declared.offers.Offer.{Offer}
use Rattle.rules.specs.declared.offers.Side.{Side}
use Rattle.rules.specs.declared.offers.Side.TheVariants.{Buy, Sell}
use Rattle.rules.specs.declared.refusal.Refusal.{Refusal}
use Rattle.rules.specs.State.{Session, State}
use Rattle.rules.specs.Board.{Pair, met}
use Rattle.rules.specs.Ticking.{exposed_pair}
use Rattle.rules.specs.Steps.{step}
use Rattle.rules.specs.Runs.{Made, run}

-- no two offers have one number
abbrev pub NumbersDiffer : List Offer → Type 0
NumbersDiffer offers = AllPairs (λ o p. o.number ≢ p.number) offers

-- an entering buy crosses the sells of its paper whose rank is at most its own, and an entering sell the buys whose rank is at least its own
abbrev pub Crosses : Meaning → Side → (entering standing : Offer) → Type 0
Crosses m Buy entering standing = (standing.paper ≡ entering.paper) × (standing.side ≡ Sell) × (m.rank standing.quote ≤ m.rank entering.quote)
Crosses m Sell entering standing = (standing.paper ≡ entering.paper) × (standing.side ≡ Buy) × (m.rank entering.quote ≤ m.rank standing.quote)

-- an entering buy meets the lower rank first, an entering sell the higher, and at equal rank both meet the lower number first
abbrev pub MetBefore : Meaning → Side → Offer → Offer → Type 0
MetBefore m Buy o p = (m.rank o.quote < m.rank p.quote) ⊎ ((m.rank o.quote ≡ m.rank p.quote) × (o.number < p.number))
MetBefore m Sell o p = (m.rank p.quote < m.rank o.quote) ⊎ ((m.rank o.quote ≡ m.rank p.quote) × (o.number < p.number))

-- these are the standing offers that cross the entering one, all of them, each once, and in order
pub record Meets (m : Meaning) (entering : Offer) (offers through : List Offer) : Type 0 where
  pub crossing : (o : Offer) → Contains through o → Contains offers o × Crosses m entering.side entering o
  pub all : (o : Offer) → Contains offers o → Crosses m entering.side entering o → Contains through o
  pub once : NumbersDiffer through
  pub in_order : AllPairs (MetBefore m entering.side) through

-- WHO IS MET: an entry goes through exactly the standing offers that cross it, and no other list does
abbrev pub WhoIsMet : Type 0
WhoIsMet = (m : Meaning) (entering : Offer) (offers : List Offer) → NumbersDiffer offers
    → Meets m entering offers (met m entering offers) × ((through : List Offer) → Meets m entering offers through → through ≡ met m entering offers)

-- MEMORY DOES NOT MATTER: where two lists hold the same standing offers, an entry goes through the same offers in the same order
abbrev pub MemoryDoesNotMatter : Type 0
MemoryDoesNotMatter = (m : Meaning) (entering : Offer) (offers others : List Offer) → NumbersDiffer offers → NumbersDiffer others
    → ((o : Offer) → Contains offers o → Contains others o) → ((o : Offer) → Contains others o → Contains offers o) → met m entering offers ≡ met m entering others

-- A REFUSED CALL CHANGES NOTHING
abbrev pub RefusedChangesNothing : Type 0
RefusedChangesNothing = (n : Session) (places : ℕ) (s : State) (call : Call) (why : Refusal)
    → (step n places s call).answer ≡ Err why → ((step n places s call).state ≡ s) × ((step n places s call).postings ≡ [])

-- the pair crosses at the price
pub record Crossing (m : Meaning) (ask price bid : ℕ) : Type 0 where
  pub above : m.rank ask ≤ m.rank price
  pub below : m.rank price ≤ m.rank bid

-- both offers of an exposed pair stand in its paper, with lots, and cross at its price
pub record ShownWell (m : Meaning) (paper price : ℕ) (p : Pair) : Type 0 where
  pub buy_paper : p.buy.paper ≡ paper
  pub sell_paper : p.sell.paper ≡ paper
  pub buy_lots : 0 < p.buy.lots
  pub sell_lots : 0 < p.sell.lots
  pub crossing : Crossing m p.sell.quote price p.buy.quote

abbrev pub ExposuresCross : Session → State → Type 0
ExposuresCross n s = (paper : ℕ) (x : Exposure) → s.papers paper ≡ Some x → ShownWell n.market paper x.price (exposed_pair s x)

-- the value lies between those at the two own quotes, for the same lots and days
pub record ValueBetween (m : Meaning) (days : ℕ) (c : Close) : Type 0 where
  pub above : m.value c.lots c.ask days ≤ c.value
  pub below : c.value ≤ m.value c.lots c.bid days

-- the price of a close ranks between its seller's quote and its buyer's, and by the market's law so does its value
abbrev pub IsFair : Meaning → (days : (paper : ℕ) → ℕ) → Close → Type 0
IsFair m days c = Crossing m c.ask c.price c.bid × (Dearer m → ValueBetween m (days c.paper) c)

-- CLOSES ARE FAIR: each close that a step strikes
abbrev pub ClosesAreFair : Type 0
ClosesAreFair = (n : Session) (places : ℕ) (s : State) (call : Call) → ExposuresCross n s
    → All (IsFair n.market s.days) (drop (length s.closes) (step n places s call).state.closes)

-- OVER WHOLE RUNS: whatever is called from a new session, exposed pairs cross at their price, so that every close of every run is fair
abbrev pub RunsAreFair : Type 0
RunsAreFair = (n : Session) (calls : List Made)
    → ExposuresCross n (run n calls).state × All (IsFair n.market (run n calls).state.days) (run n calls).state.closes
