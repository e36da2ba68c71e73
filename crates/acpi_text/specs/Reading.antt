-- The bytes that a text has.
use Rattle.std.specs.Prelude.{◌≡◌, ℕ, ◌+◌, ◌-◌, ◌*◌, ◌==◌, nat_lt, if◌then◌else◌, List, [], ◌∷◌, ◌++◌}

-- the value of a digit in lower case
abbrev pub lower_digit : ℕ → ℕ
lower_digit c = if nat_lt c 58 then c - 48 else c - 87

-- Where a reader of a text is: where a line begins, in the name of a field, in what has no bytes, between two digits of a field's
-- bytes, or between two bytes. It has the bytes of the number that it is in, lowest first.
pub data State : Type 0 where
  at_start : State
  in_name : State
  in_comment : State
  in_number : List ℕ → State
  in_byte : ℕ → List ℕ → State

-- A line that begins with a space has bytes: the numbers between its first colon and its end or a slash, each with its digits
-- highest first. Any other line has none.
abbrev pub read : State → List ℕ → List ℕ
read at_start [] = []
read at_start (c ∷ text) = if c == 32 then read in_name text else (if c == 10 then read at_start text else read in_comment text)
read in_name [] = []
read in_name (c ∷ text) =
    if c == 58 then read (in_number []) text else (if c == 10 then read at_start text else read in_name text)
read in_comment [] = []
read in_comment (c ∷ text) = if c == 10 then read at_start text else read in_comment text
read (in_number bytes) [] = bytes
read (in_number bytes) (c ∷ text) =
    if c == 32 then bytes ++ read (in_number []) text
    else (if c == 10 then bytes ++ read at_start text
    else (if c == 47 then bytes ++ read in_comment text
    else read (in_byte (lower_digit c) bytes) text))
read (in_byte high bytes) [] = bytes
read (in_byte high bytes) (c ∷ text) = read (in_number ((16 * high + lower_digit c) ∷ bytes)) text

-- the bytes of a text
abbrev pub bytes_of : List ℕ → List ℕ
bytes_of text = read at_start text

-- whole lines that have these bytes, also if other text follows
pub record Has (lines bytes : List ℕ) : Type 0 where
  pub reads : (more : List ℕ) → bytes_of (lines ++ more) ≡ bytes ++ bytes_of more
