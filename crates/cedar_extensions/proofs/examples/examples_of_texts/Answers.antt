use Rattle.std.proofs.Common.{refl}
use Rattle.cedar_extensions.specs.TextExamples.{AddressExamples, DecimalExamples, DurationExamples, DatetimeExamples}
use Rattle.cedar_extensions.specs.Texts.Addresses.{read_count, read_ipv4, read_groups, read_tail, read_ipv6}
use Rattle.cedar_extensions.specs.Texts.Numbers.{ten_thousandths, decimal_value, read_unit, read_quantity, skip_unit, milliseconds}
use Rattle.cedar_extensions.specs.Texts.Readers.{read_number}
use Rattle.cedar_extensions.specs.Texts.Times.{read_date, read_clock, read_offset}
use Rattle.cedar_extensions.proofs.examples.examples_of_texts.Goals as goal

addresses_are : AddressExamples
unfolding read_count read_ipv4 read_groups read_tail read_ipv6 read_number
addresses_are = record {
  address = refl;
  three_numbers = refl;
  more_than_8_bits = refl;
  leading_zero = refl;
  groups = refl;
  seven_groups = refl;
  five_digits = refl;
  no_hex_digit = refl;
  all_groups = refl;
  first_groups = refl;
  one_group = refl;
  no_group = refl;
  range = refl;
  whole_address = refl;
  too_many_bits = refl;
  long_range = refl;
  too_many_long_bits = refl;
}

decimals_are : DecimalExamples
unfolding read_number ten_thousandths decimal_value
decimals_are = record {
  decimal = refl;
  negative = refl;
  plus = refl;
  no_point = refl;
  no_places = refl;
  four_places = refl;
  five_places = refl;
  greatest = refl;
  one_more = refl;
  least = refl;
  one_less = refl;
  tenths = refl;
  a_tenth_more = refl;
  many_digits = refl;
}

durations_are : DurationExamples
unfolding read_number read_unit read_quantity skip_unit milliseconds
durations_are = record {
  all_units = refl;
  some_units = refl;
  negative = refl;
  wrong_order = refl;
  twice = refl;
  nothing = refl;
  minus_alone = refl;
  text_behind = refl;
  no_unit = refl;
  weeks = refl;
  greatest = refl;
  one_more = refl;
  least = refl;
  most_days = refl;
  a_day_more = refl;
  many_digits = refl;
}

datetimes_are : DatetimeExamples
unfolding read_date read_clock read_offset
datetimes_are = record {
  date = refl;
  day_0 = refl;
  last_of_october = refl;
  last_of_november = refl;
  november_31 = refl;
  month_13 = refl;
  month_0 = refl;
  leap_day = refl;
  no_leap_year = refl;
  hundred = refl;
  four_hundreds = refl;
  time = refl;
  space_for_t = refl;
  no_zone = refl;
  small_z = refl;
  text_behind_z = refl;
  hour_24 = refl;
  minute_60 = refl;
  second_60 = refl;
  milliseconds = refl;
  one_digit = refl;
  later = refl;
  earlier = refl;
  offset_of_a_day = refl;
  offset_of_60_minutes = refl;
  offset_of_99_minutes = refl;
  text_behind_an_offset = refl;
}

pub returns : goal.returns
returns c =
    record { addresses = addresses_are; decimals = decimals_are; durations = durations_are; datetimes = datetimes_are }
