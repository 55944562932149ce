-- The worked cases.
use Rattle.std.specs.Prelude.{◌≡◌, ℕ, ◌^◌, List, [], ◌∷◌, ◌++◌, map, None, Ok, Result}
use Rattle.market.specs.Makes.{price, rate, interbank}
use Rattle.rules.specs.declared.calls.Answer.{Answer}
use Rattle.rules.specs.declared.calls.Answer.TheVariants.{Done, Entered, Ticked}
use Rattle.rules.specs.declared.calls.Call.{Call}
use Rattle.rules.specs.declared.calls.Call.TheVariants.{Limit, Enter, Tick}
use Rattle.rules.specs.declared.calls.ExposureTime.{ExposureTime}
use Rattle.rules.specs.declared.calls.ExposureTime.TheVariants.{Zero, Ten}
use Rattle.rules.specs.declared.closes.Close.{Close}
use Rattle.rules.specs.declared.offers.Side.TheVariants.{Buy, Sell}
use Rattle.rules.specs.declared.refusal.Refusal.{Refusal}
use Rattle.rules.specs.State.{Session}
use Rattle.rules.specs.Runs.{Made, Run, run}
use Rattle.rules.specs.File.{file}

-- a session of the price market
abbrev pub priced : ExposureTime → Session
priced exposure = record { market = price; settings = record { number = 1; exposure = exposure } }

-- the calls over a book with a million places at each
abbrev pub calls : List Call → List Made
calls cs = map (λ c. record { places = 1000000; call = c }) cs

-- a line of each house on the other
abbrev pub lines : (house other pesos : ℕ) → List Call
lines house other pesos = Limit house other pesos ∷ Limit other house pesos ∷ []

-- an offer of paper 0 that stands until it is withdrawn
abbrev pub sells : (house lots quote : ℕ) → Call
sells house lots quote = Enter (record { house = house; side = Sell; paper = 0; lots = lots; quote = quote; lapse = None })

abbrev pub buys : (house lots quote : ℕ) → Call
buys house lots quote = Enter (record { house = house; side = Buy; paper = 0; lots = lots; quote = quote; lapse = None })

-- what is told of a close: buyer, seller, lots, price and value
pub record Told : Type 0 where
  pub buyer : ℕ
  pub seller : ℕ
  pub lots : ℕ
  pub price : ℕ
  pub value : ℕ

abbrev pub told : Close → Told
told c = record { buyer = c.buyer; seller = c.seller; lots = c.lots; price = c.price; value = c.value }

-- houses 1 and 2, with these lines on each other, trade 500 lots at 98,250
abbrev pub one_trade : (buyer_limit seller_limit : ℕ) → Run
one_trade buyer_limit seller_limit =
    run (priced Zero) (calls (Limit 2 1 buyer_limit ∷ Limit 1 2 seller_limit ∷ Tick 30000 ∷ sells 1 500 98250 ∷ buys 2 500 98250 ∷ []))

-- house 4, then 3, sells 100 at 98,000; 5 buys 150 there
abbrev pub two_sellers : Run
two_sellers =
    run (priced Zero) (calls (lines 4 5 (10 ^ 15) ++ (lines 3 5 (10 ^ 15) ++ (Tick 30000 ∷ sells 4 100 98000 ∷ sells 3 100 98000 ∷ buys 5 150 98000 ∷ []))))

-- house 1 sells 100 at 98,000; 2 buys 100 at 98,100; 3 buys 60 at 98,200: ticked at 30,009 and at 30,010
abbrev pub bettered : Run
bettered =
    run (priced Ten)
    (calls (lines 1 2 (10 ^ 15) ++ (lines 1 3 (10 ^ 15) ++ (Tick 30000 ∷ sells 1 100 98000 ∷ buys 2 100 98100 ∷ buys 3 60 98200 ∷ Tick 30009 ∷ Tick 30010 ∷ []))))

abbrev pub done : Result Answer Refusal
done = Ok Done

pub record WorkedCases : Type 0 where
  pub price_value : price.value 500 98250 0 ≡ 49125000
  pub rate_lot : rate.value 1 1000 90 ≡ 97593
  pub rate_value : rate.value 20 1000 90 ≡ 1951860
  pub interbank_value : interbank.value 30 800 7 ≡ 3004603
  pub rank_900 : rate.rank 900 ≡ 4101
  pub rank_901 : rate.rank 901 ≡ 4100
  -- lines of exactly the value let the close happen
  pub exact_lines : map told (one_trade 49125000 49125000).state.closes ≡ (record { buyer = 2; seller = 1; lots = 500; price = 98250; value = 49125000 } ∷ [])
  -- and one peso less on either passes it over: both offers stand
  pub buyer_short : (one_trade 49124999 49125000).answers ≡ (done ∷ done ∷ Ok (Ticked (0, 0, 0)) ∷ Ok (Entered 1 0) ∷ Ok (Entered 2 0) ∷ [])
  pub seller_short : (one_trade 49125000 49124999).answers ≡ (done ∷ done ∷ Ok (Ticked (0, 0, 0)) ∷ Ok (Entered 1 0) ∷ Ok (Entered 2 0) ∷ [])
  -- equal quotes are met in the order of entry
  pub in_order : map told two_sellers.state.closes ≡
      (record { buyer = 5; seller = 4; lots = 100; price = 98000; value = 9800000 } ∷ record { buyer = 5; seller = 3; lots = 50; price = 98000; value = 4900000 } ∷ [])
  -- a bettered exposure closes at the better quote, when it ends and not before
  pub bettered_answers : bettered.answers ≡
      (done ∷ done ∷ done ∷ done ∷ Ok (Ticked (0, 0, 0)) ∷ Ok (Entered 1 0) ∷ Ok (Entered 2 0) ∷ Ok (Entered 3 0) ∷ Ok (Ticked (0, 0, 0)) ∷ Ok (Ticked (1, 0, 0)) ∷ [])
  pub bettered_close : map told bettered.state.closes ≡ (record { buyer = 3; seller = 1; lots = 60; price = 98200; value = 5892000 } ∷ [])
  -- and its closing file, byte by byte
  pub bettered_file : file bettered.state.closes ≡ (0x01 ∷ 0x01 ∷ 0x03 ∷ 0x01 ∷ 0x00 ∷ 0x3C ∷ 0x98 ∷ 0xFF ∷ 0x05 ∷ 0xA0 ∷ 0xCF ∷ 0xE7 ∷ 0x02 ∷ 0x00 ∷ [])
