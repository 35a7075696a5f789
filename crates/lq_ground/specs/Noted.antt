-- Tables that keep the first number that is noted at each place.
use Rattle.std.specs.Prelude.{ℕ, ◌==◌, if◌then◌else◌, List, [], Option, None, Some, slice_get}

-- the first of two numbers that is there
abbrev pub first_of : Option ℕ → Option ℕ → Option ℕ
first_of None second = second
first_of (Some n) second = Some n

-- what a place has, if there is such a place
abbrev pub in_place : Option (Option ℕ) → Option ℕ
in_place None = None
in_place (Some number) = number

-- the number at a place of a table
abbrev pub noted : List (Option ℕ) → (place : ℕ) → Option ℕ
noted table place = in_place (slice_get table place)

-- this number is for one place
abbrev pub number_for : (at number : ℕ) → (place : ℕ) → Option ℕ
number_for at number place = if at == place then Some number else None

-- a row, if it is there
abbrev pub row_of : Option (List (Option ℕ)) → List (Option ℕ)
row_of None = []
row_of (Some row) = row

-- the number at a place of one of several tables
abbrev pub noted_in : List (List (Option ℕ)) → (row place : ℕ) → Option ℕ
noted_in rows row place = noted (row_of (slice_get rows row)) place
