-- The words and the numbers of a text, and its lines.
use Rattle.std.specs.Prelude.{◌≡◌, ℕ, ◌+◌, ◌-◌, ◌*◌, Bool, cond, not, ◌&&◌, List, length, drop, Some, None, Option, ◌==◌, nat_le}
use Rattle.std.specs.Borrow.{Bor}
use Rattle.std.specs.Char.{is_ascii_digit}
use Rattle.std.specs.List.{list_all, fold, position_or_len, before_first, after_first}
use Rattle.std.specs.Option.{option_map}
use Rattle.words.specs.declared.mark.Mark.{Mark}
use Rattle.words.specs.declared.mark.Mark.TheVariants.{Blank, Solid, LineEnd}

-- a byte that parts words is a space or below it; a line ends at byte 10
abbrev pub is : Mark → ℕ → Bool
is Blank b = nat_le b 32
is Solid b = not (nat_le b 32)
is LineEnd b = b == 10

-- the bytes before the first such byte
abbrev pub before : Mark → List ℕ → List ℕ
before m text = before_first (is m) text

-- and those from it on
abbrev pub from : Mark → List ℕ → List ℕ
from m text = drop (position_or_len (is m) text) text

-- the first word of a text: empty where there is none
abbrev pub word : List ℕ → List ℕ
word text = before Blank (from Solid text)

abbrev pub next_word : List ℕ → Option (List ℕ)
next_word text = cond (length (word text) == 0) None (Some (word text))

-- what follows the first word
abbrev pub after : List ℕ → List ℕ
after text = from Blank (from Solid text)

-- the first line of a text, if there is any text
abbrev pub next_line : List ℕ → Option (List ℕ)
next_line text = cond (length text == 0) None (Some (before LineEnd text))

-- what follows the first line and the byte that ends it
abbrev pub after_line : List ℕ → List ℕ
after_line text = after_first (is LineEnd) text

-- the number that 1 to 18 digits write
abbrev pub number : List ℕ → Option ℕ
number text =
    cond (nat_le 1 (length text) && (nat_le (length text) 18 && list_all is_ascii_digit text))
    (Some (fold (λ n b. n * 10 + (b - 48)) 0 text)) None

-- a call that hands out the next part of a text, and what is left of the text
abbrev pub HandsOut : (next : List ℕ → Option (List ℕ)) → (after : List ℕ → List ℕ) → List ℕ → Option (Bor (List ℕ)) → List ℕ → Type 0
HandsOut next after text part rest = (option_map (λ x. x.now) part ≡ next text) × (rest ≡ after text)
