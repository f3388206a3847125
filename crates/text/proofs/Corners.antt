-- Numbers, templates and lines computed by the definitions.
-- Assumes nothing.
use Rattle.std.proofs.Common.{◌≡◌, ◌+◌, ◌-◌, ◌*◌, ◌^◌, [], ◌∷◌, ◌++◌, refl}
use Rattle.text.specs.Bytes.{bytes}
use Rattle.text.specs.Number.{printed_by, printed, digits, digit_of, read_on, number, number_at}
use Rattle.std.specs.Prelude.{Some, None}
use Rattle.text.specs.Template.{capital, filled, matched, matched_at, whole_of, line_numbers, numbers_by}
use Rattle.text.specs.Feed.{feed_from, first_feed}
use Rattle.text.specs.Lines.{lines_of, joined, up_to, line_end}

pub record Corners : Type 0 where
  -- printed: 0 itself, no leading zero, and more than sixteen digits where a total needs them
  pub zero-printed : digits 0 ≡ bytes "0"
  pub ten-printed : digits 10 ≡ bytes "10"
  pub amount-printed : digits 350000000 ≡ bytes "350000000"
  pub total-printed : digits (64 * 10 ^ 16 + 1) ≡ bytes "640000000000000001"
  -- read: 1 to 16 digits
  pub zero-read : number (bytes "0)") ≡ Some (0, bytes ")")
  pub sixteen-read : number (bytes "9999999999999999 ") ≡ Some (9999999999999999, bytes " ")
  pub seventeen : number (bytes "10000000000000000 ") ≡ None
  pub sixteen_least : number (bytes "1000000000000000)") ≡ Some (1000000000000000, bytes ")")
  pub sixteen_to_the_end : number (bytes "1234567890123456") ≡ Some (1234567890123456, [])
  pub seventeen_to_the_end : number (bytes "12345678901234567") ≡ None
  pub seventeen_nines : number (bytes "99999999999999999)") ≡ None
  pub leading-zero : number (bytes "01 ") ≡ None
  pub leading_zero_of_sixteen : number (bytes "0123456789012345)") ≡ None
  pub two-zeros : number (bytes "00") ≡ None
  pub no_digit : number (bytes " 1") ≡ None
  pub sign : number (bytes "-1") ≡ None
  pub nothing : number [] ≡ None
  -- at a place of a text, with the place after it
  pub sixteen-at : number_at (bytes "(a 1234567890123456)") 3 ≡ Some (1234567890123456, 19)
  pub seventeen-at : number_at (bytes "(a 12345678901234567)") 3 ≡ None
  pub leading-zero-at : number_at (bytes "(a 07)") 3 ≡ None
  -- the bytes next to the digits
  pub below-digits : number (47 ∷ []) ≡ None
  pub above-digits : number (58 ∷ []) ≡ None
  pub ended-above : number (bytes "7:") ≡ Some (7, bytes ":")
  -- templates
  pub form-printed : filled (bytes "(band A L)") (50 ∷ 100 ∷ []) [] ≡ bytes "(band 50 100)"
  pub form-read : matched [] (bytes "(band A L)") (bytes "(band 50 100) (") ≡ Some (50 ∷ 100 ∷ [], bytes " (")
  pub line_read : line_numbers (bytes "(band A L)") (bytes "(band 50 100)") ≡ Some (50 ∷ 100 ∷ [])
  pub line-longer : line_numbers (bytes "(band A L)") (bytes "(band 50 100) ") ≡ None
  pub line-shorter : line_numbers (bytes "(band A L)") (bytes "(band 50 100") ≡ None
  pub two_spaces : line_numbers (bytes "(band A L)") (bytes "(band 50  100)") ≡ None
  pub a_letter : line_numbers (bytes "(band A L)") (bytes "(band A 100)") ≡ None
  -- at a place of a text, with the place after the form and eight numbers; of a whole line, its numbers if it is the form
  pub form-at : matched_at (bytes "(a A)") (bytes "xyz (a 7) z") 4
      ≡ Some (record { end = 9; values = 7 ∷ 0 ∷ 0 ∷ 0 ∷ 0 ∷ 0 ∷ 0 ∷ 0 ∷ [] })
  pub no-form-at : matched_at (bytes "(a A)") (bytes "xyz (a 7) z") 3 ≡ None
  pub line-found : numbers_by (bytes "(band A L)") (bytes "(band 50 100)")
      ≡ Some (50 ∷ 100 ∷ 0 ∷ 0 ∷ 0 ∷ 0 ∷ 0 ∷ 0 ∷ [])
  pub line_not_found : numbers_by (bytes "(band A L)") (bytes "(band 50 100) ") ≡ None
  -- a tab for the space, and bytes after the form: a carriage return, a NUL, one above 127
  pub a_tab : line_numbers (bytes "(band A L)") (bytes "(band" ++ (9 ∷ bytes "50 100)")) ≡ None
  pub carriage_return : line_numbers (bytes "(band A L)") (bytes "(band 50 100)" ++ (13 ∷ [])) ≡ None
  pub nul : line_numbers (bytes "(band A L)") (bytes "(band 50 100)" ++ (0 ∷ [])) ≡ None
  pub high_byte : line_numbers (bytes "(band A L)") (bytes "(band 50 100)" ++ (255 ∷ [])) ≡ None
  -- the first line feed of eight bytes: at either end; of two the first; and among bytes that are next to it in
  -- number, a bit away from it, or above 127
  pub feed-first : first_feed 10 ≡ Some 0
  pub feed-last : first_feed (10 * 2 ^ 56) ≡ Some 7
  pub feed_of_two : first_feed (97 + 10 * 2 ^ 8 + 10 * 2 ^ 32) ≡ Some 1
  pub feed_after_letters : first_feed (97 + 98 * 2 ^ 8 + 10 * 2 ^ 16 + 11 * 2 ^ 24) ≡ Some 2
  pub feed-after-high : first_feed (138 + 255 * 2 ^ 8 + 128 * 2 ^ 16 + 129 * 2 ^ 24 + 10 * 2 ^ 32) ≡ Some 4
  pub no_feed_near : first_feed (9 + 11 * 2 ^ 8 + 12 * 2 ^ 16 + 13 * 2 ^ 24) ≡ None
  pub no_feed_by_a_bit : first_feed (11 + 8 * 2 ^ 8 + 14 * 2 ^ 16 + 2 * 2 ^ 24 + 26 * 2 ^ 32 + 42 * 2 ^ 40 + 74 * 2 ^ 48
      + 138 * 2 ^ 56) ≡ None
  pub no-feed-high : first_feed (138 + 139 * 2 ^ 8 + 137 * 2 ^ 16 + 138 * 2 ^ 56) ≡ None
  pub no-feed-ones : first_feed (2 ^ 64 - 1) ≡ None
  pub no-feed-zeros : first_feed 0 ≡ None
  pub no-feed-past-eight : first_feed (10 * 2 ^ 64) ≡ None
  -- where a line ends, from its own place on: at the seventh byte, the eighth, the ninth; at the end of the text
  pub end_in_eight : line_end (bytes "(a 12)\n\n") 0 ≡ 6
  pub end_of_eight : line_end (bytes "(a 123)\n(a 4)\n") 0 ≡ 7
  pub end-after-eight : line_end (bytes "\n(a 1234)\n") 1 ≡ 9
  pub end_of_the_text : line_end (bytes "(a 1)\n(b") 6 ≡ 8
  -- lines
  pub no_lines : lines_of [] ≡ []
  pub empty-line : lines_of (bytes "\n") ≡ Some [] ∷ []
  pub two_and_a_half : lines_of (bytes "ab\n\nc") ≡ Some (bytes "ab") ∷ Some [] ∷ None ∷ []
  pub put-together : joined (bytes "ab" ∷ [] ∷ []) ≡ bytes "ab\n\n"

pub corners : Corners
unfolding printed_by printed digit_of read_on number number_at capital filled matched matched_at whole_of line_numbers
    feed_from lines_of up_to
corners = record {
  zero-printed = refl;
  ten-printed = refl;
  amount-printed = refl;
  total-printed = refl;
  zero-read = refl;
  sixteen-read = refl;
  seventeen = refl;
  sixteen_least = refl;
  sixteen_to_the_end = refl;
  seventeen_to_the_end = refl;
  seventeen_nines = refl;
  leading-zero = refl;
  leading_zero_of_sixteen = refl;
  two-zeros = refl;
  no_digit = refl;
  sign = refl;
  nothing = refl;
  sixteen-at = refl;
  seventeen-at = refl;
  leading-zero-at = refl;
  below-digits = refl;
  above-digits = refl;
  ended-above = refl;
  form-printed = refl;
  form-read = refl;
  line_read = refl;
  line-longer = refl;
  line-shorter = refl;
  two_spaces = refl;
  a_letter = refl;
  form-at = refl;
  no-form-at = refl;
  line-found = refl;
  line_not_found = refl;
  a_tab = refl;
  carriage_return = refl;
  nul = refl;
  high_byte = refl;
  feed-first = refl;
  feed-last = refl;
  feed_of_two = refl;
  feed_after_letters = refl;
  feed-after-high = refl;
  no_feed_near = refl;
  no_feed_by_a_bit = refl;
  no-feed-high = refl;
  no-feed-ones = refl;
  no-feed-zeros = refl;
  no-feed-past-eight = refl;
  end_in_eight = refl;
  end_of_eight = refl;
  end-after-eight = refl;
  end_of_the_text = refl;
  no_lines = refl;
  empty-line = refl;
  two_and_a_half = refl;
  put-together = refl;
}
