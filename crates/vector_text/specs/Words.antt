-- The words of a line, and what they stand for.
use Rattle.std.specs.Prelude.{ℕ, zero, suc, ◌+◌, ◌*◌, ◌-◌, ◌%◌, min, cond, ◌&&◌, List, [], ◌∷◌, length, take, drop, get_or, eqb, leb}
use Rattle.runs.specs.Runs.{before}
use Rattle.vector_text.specs.Laid.{run_byte, same_byte, laid}

-- how many bytes lie before the first b; all of them where there is none
abbrev pub index_of : ℕ → List ℕ → ℕ
index_of b bytes = before b b bytes

-- a line from its word k on, counted from 0; nothing where there is no such word
unfoldable pub words_from : ℕ → List ℕ → List ℕ
words_from zero line = line
words_from (suc k) line = words_from k (drop (suc (index_of 32 line)) line)

-- word k: the bytes up to a space
unfoldable pub word_of : ℕ → List ℕ → List ℕ
word_of k line = take (index_of 32 (words_from k line)) (words_from k line)

-- the first byte of a word, 0 where it has none
abbrev pub first_byte : List ℕ → ℕ
first_byte word = get_or word 0 0

-- a number with one character more: what is no digit is passed over, and at most ten digits are kept
abbrev pub with_digit : ℕ → ℕ → ℕ
with_digit n b = cond (leb 48 b && leb b 57) (n % 1000000000 * 10 + (b - 48)) n

unfoldable pub decimal_from : ℕ → List ℕ → ℕ
decimal_from n [] = n
decimal_from n (b ∷ bs) = decimal_from (with_digit n b) bs

-- the number that the digits of a word make
abbrev pub parsed_decimal : List ℕ → ℕ
parsed_decimal word = decimal_from 0 word

-- the number of word k
unfoldable pub number_of : ℕ → List ℕ → ℕ
number_of k line = parsed_decimal (word_of k line)

-- the value of a hex digit in upper case; any other character stands for 0
abbrev pub hex_of : ℕ → ℕ
hex_of b = cond (leb 48 b && leb b 57) (b - 48) (cond (leb 65 b && leb b 70) (b - 55) 0)

-- the bytes of a word in hex
unfoldable pub unhexed : List ℕ → List ℕ
unhexed [] = []
unhexed (a ∷ []) = []
unhexed (a ∷ b ∷ bs) = (hex_of a * 16 + hex_of b) ∷ unhexed bs

-- a run of bytes, none of them where there is not room for all
abbrev pub fitted : ℕ → List ℕ → List ℕ
fitted room bytes = cond (leb (length bytes) room) bytes []

-- the bytes that a word stands for, by its first letter: of `frame` the last frame, of `runN` and `sameN` so many bytes as far as there
-- is room, of any other word those in hex
unfoldable pub given_by : List ℕ → List ℕ → ℕ → List ℕ
given_by word frame room =
    cond (eqb (first_byte word) 102) (fitted room frame)
    (cond (eqb (first_byte word) 114) (laid run_byte (min (parsed_decimal word) room))
    (cond (eqb (first_byte word) 115) (laid same_byte (min (parsed_decimal word) room)) (take room (unhexed word))))

-- the word `example`
abbrev pub example : List ℕ
example = 101 ∷ 120 ∷ 97 ∷ 109 ∷ 112 ∷ 108 ∷ 101 ∷ []
