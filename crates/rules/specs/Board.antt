-- The standing offers: which of them an entering offer meets, and in which order.
use Rattle.std.specs.Prelude.{ℕ, ◌-◌, min, Bool, true, false, cond, not, ◌&&◌, ◌||◌, List, [], ◌∷◌, map, filter, find, unwrap_or, None, ◌==◌, nat_le, nat_lt}
use Rattle.std.specs.List.{list_any}
use Rattle.market.specs.Meaning.{Meaning}
use Rattle.rules.specs.declared.offers.Offer.{Offer}
use Rattle.rules.specs.declared.offers.Side.{Side}
use Rattle.rules.specs.declared.offers.Side.TheVariants.{Buy, Sell}

-- a buy and a sell
abbrev pub opposite : Side → Side → Bool
opposite Buy Buy = false
opposite Buy Sell = true
opposite Sell Buy = true
opposite Sell Sell = false

-- two offers that may close: a buy and a sell of one paper
pub record Pair : Type 0 where
  pub buy : Offer
  pub sell : Offer

-- an entering offer of a side, with a standing one
abbrev pub pair_of : Side → (entering standing : Offer) → Pair
pair_of Buy entering standing = record { buy = entering; sell = standing }
pair_of Sell entering standing = record { buy = standing; sell = entering }

-- the same, by the entering offer's own side
abbrev pub paired : (entering standing : Offer) → Pair
paired entering standing = pair_of entering.side entering standing

-- the lesser of both lots
abbrev pub lesser : Pair → ℕ
lesser p = min p.buy.lots p.sell.lots

-- they cross when the buy's rank is at least the sell's
abbrev pub cross : Meaning → Pair → Bool
cross m p = nat_le (m.rank p.sell.quote) (m.rank p.buy.quote)

-- the entering offer goes to this standing offer: of its paper, of the other side, and crossing it
abbrev pub meets : Meaning → (entering standing : Offer) → Bool
meets m entering standing = standing.paper == entering.paper && (opposite entering.side standing.side && cross m (paired entering standing))

-- a rank is better than another for a side: higher for buys, lower for sells
abbrev pub better : Side → (rank other : ℕ) → Bool
better Buy rank other = nat_lt other rank
better Sell rank other = nat_lt rank other

-- one standing offer is met before another: at the better rank, or at equal rank with the lower number
abbrev pub ahead : Meaning → Offer → Offer → Bool
ahead m o p =
    better o.side (m.rank o.quote) (m.rank p.quote) || (m.rank o.quote == m.rank p.quote && nat_lt o.number p.number)

-- an offer among others that are in this order
abbrev pub placed : Meaning → Offer → List Offer → List Offer
placed m o [] = o ∷ []
placed m o (p ∷ ps) = cond (ahead m o p) (o ∷ p ∷ ps) (p ∷ placed m o ps)

-- offers in this order
abbrev pub best_first : Meaning → List Offer → List Offer
best_first m [] = []
best_first m (o ∷ os) = placed m o (best_first m os)

-- the offers that an entering offer goes through, in order
abbrev pub met : Meaning → (entering : Offer) → List Offer → List Offer
met m entering offers = best_first m (filter (meets m entering) offers)

-- the offer that is read where none of a number stands
abbrev pub no_offer : Offer
no_offer = record { number = 0; house = 0; side = Buy; paper = 0; lots = 0; quote = 0; lapse = None }

-- the offer of a number
abbrev pub offer_of : (number : ℕ) → List Offer → Offer
offer_of number offers = unwrap_or (find (λ o. o.number == number) offers) no_offer

-- an offer of that number stands
abbrev pub stands : (number : ℕ) → List Offer → Bool
stands number offers = list_any (λ o. o.number == number) offers

-- the other offers
abbrev pub without : (number : ℕ) → List Offer → List Offer
without number = filter (λ o. not (o.number == number))

-- the offer with so many lots less
abbrev pub fewer : (lots : ℕ) → Offer → Offer
fewer lots o = record o { lots = o.lots - lots }

-- so many lots of the offer of that number are gone; an offer without lots leaves the board
abbrev pub reduced : (number lots : ℕ) → List Offer → List Offer
reduced number lots offers = filter (λ o. nat_lt 0 o.lots) (map (λ o. cond (o.number == number) (fewer lots o) o) offers)
