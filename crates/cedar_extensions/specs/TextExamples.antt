-- Which texts the functions read, and which they do not, by examples.
use Rattle.std.specs.Prelude.{◌≡◌, true, false, codes}
use Rattle.cedar_types.specs.Names.{Text}
use Rattle.cedar_extensions.specs.declared.checks.Constructor.{Constructor}
use Rattle.cedar_extensions.specs.Texts.{reads}

abbrev pub IsRead : Constructor → Text → Type 0
IsRead c s = reads c s ≡ true

abbrev pub IsUnread : Constructor → Text → Type 0
IsUnread c s = reads c s ≡ false

-- of addresses and ranges
pub record AddressExamples : Type 0 where
  -- an address has four numbers of 8 bits, without leading zeros
  pub address : IsRead Constructor.Ip (codes "1.2.3.4")
  pub three_numbers : IsUnread Constructor.Ip (codes "1.2.3")
  pub more_than_8_bits : IsUnread Constructor.Ip (codes "1.2.3.256")
  pub leading_zero : IsUnread Constructor.Ip (codes "1.2.3.04")
  -- or eight groups of one to four hex digits
  pub groups : IsRead Constructor.Ip (codes "1:22:333:4444:a:bB:c:D")
  pub seven_groups : IsUnread Constructor.Ip (codes "1:2:3:4:5:6:7")
  pub five_digits : IsUnread Constructor.Ip (codes "12345:2:3:4:5:6:7:8")
  pub no_hex_digit : IsUnread Constructor.Ip (codes "g:2:3:4:5:6:7:8")
  -- two colons stand for one group or more, and not for none
  pub all_groups : IsRead Constructor.Ip (codes "::")
  pub first_groups : IsRead Constructor.Ip (codes "::1")
  pub one_group : IsRead Constructor.Ip (codes "1:2:3:4:5:6::8")
  pub no_group : IsUnread Constructor.Ip (codes "1:2:3:4:5:6:7::8")
  -- a range keeps no more bits than its address has
  pub range : IsRead Constructor.Ip (codes "10.0.0.0/8")
  pub whole_address : IsRead Constructor.Ip (codes "1.2.3.4/32")
  pub too_many_bits : IsUnread Constructor.Ip (codes "1.2.3.4/33")
  pub long_range : IsRead Constructor.Ip (codes "::1/128")
  pub too_many_long_bits : IsUnread Constructor.Ip (codes "::1/129")

-- of decimal numbers
pub record DecimalExamples : Type 0 where
  -- a decimal has digits, a point, and one to four digits; a minus may come first
  pub decimal : IsRead Constructor.Decimal (codes "1.5")
  pub negative : IsRead Constructor.Decimal (codes "-1.5")
  pub plus : IsUnread Constructor.Decimal (codes "+1.5")
  pub no_point : IsUnread Constructor.Decimal (codes "1")
  pub no_places : IsUnread Constructor.Decimal (codes "1.")
  pub four_places : IsRead Constructor.Decimal (codes "0.1234")
  pub five_places : IsUnread Constructor.Decimal (codes "0.12345")
  -- in ten thousandths it is a number of 64 bits with a sign
  pub greatest : IsRead Constructor.Decimal (codes "922337203685477.5807")
  pub one_more : IsUnread Constructor.Decimal (codes "922337203685477.5808")
  pub least : IsRead Constructor.Decimal (codes "-922337203685477.5808")
  pub one_less : IsUnread Constructor.Decimal (codes "-922337203685477.5809")
  -- a tenth is a thousand ten thousandths
  pub tenths : IsRead Constructor.Decimal (codes "922337203685477.5")
  pub a_tenth_more : IsUnread Constructor.Decimal (codes "922337203685477.6")
  -- digits that say more do not begin anew
  pub many_digits : IsUnread Constructor.Decimal (codes "18446744073709551617.0")

-- of durations
pub record DurationExamples : Type 0 where
  -- a duration has days, hours, minutes, seconds and milliseconds, in this order, each with its number or left out
  pub all_units : IsRead Constructor.Duration (codes "1d2h3m4s5ms")
  pub some_units : IsRead Constructor.Duration (codes "2h5ms")
  pub negative : IsRead Constructor.Duration (codes "-1d")
  pub wrong_order : IsUnread Constructor.Duration (codes "1h1d")
  pub twice : IsUnread Constructor.Duration (codes "1d1d")
  -- one of them is there, and nothing behind them
  pub nothing : IsUnread Constructor.Duration (codes "")
  pub minus_alone : IsUnread Constructor.Duration (codes "-")
  pub text_behind : IsUnread Constructor.Duration (codes "1d ")
  pub no_unit : IsUnread Constructor.Duration (codes "1")
  -- there are no weeks
  pub weeks : IsUnread Constructor.Duration (codes "1w")
  -- in milliseconds it is a number of 64 bits with a sign
  pub greatest : IsRead Constructor.Duration (codes "9223372036854775807ms")
  pub one_more : IsUnread Constructor.Duration (codes "9223372036854775808ms")
  pub least : IsRead Constructor.Duration (codes "-9223372036854775808ms")
  -- a day has 24 hours
  pub most_days : IsRead Constructor.Duration (codes "106751991167d")
  pub a_day_more : IsUnread Constructor.Duration (codes "106751991168d")
  -- digits that say more do not begin anew
  pub many_digits : IsUnread Constructor.Duration (codes "18446744073709551617ms")

-- of points in time
pub record DatetimeExamples : Type 0 where
  -- a date has a day that there is
  pub date : IsRead Constructor.Datetime (codes "2024-10-15")
  pub day_0 : IsUnread Constructor.Datetime (codes "2024-10-00")
  pub last_of_october : IsRead Constructor.Datetime (codes "2024-10-31")
  pub last_of_november : IsRead Constructor.Datetime (codes "2024-11-30")
  pub november_31 : IsUnread Constructor.Datetime (codes "2024-11-31")
  pub month_13 : IsUnread Constructor.Datetime (codes "2024-13-01")
  pub month_0 : IsUnread Constructor.Datetime (codes "2024-00-01")
  -- each fourth year has a leap day, but of the hundreds each fourth alone
  pub leap_day : IsRead Constructor.Datetime (codes "2024-02-29")
  pub no_leap_year : IsUnread Constructor.Datetime (codes "2023-02-29")
  pub hundred : IsUnread Constructor.Datetime (codes "1900-02-29")
  pub four_hundreds : IsRead Constructor.Datetime (codes "2000-02-29")
  -- behind a `T` a date has a time of the day, with its zone
  pub time : IsRead Constructor.Datetime (codes "2024-10-15T23:59:59Z")
  pub space_for_t : IsUnread Constructor.Datetime (codes "2024-10-15 23:59:59Z")
  pub no_zone : IsUnread Constructor.Datetime (codes "2024-10-15T23:59:59")
  pub small_z : IsUnread Constructor.Datetime (codes "2024-10-15T23:59:59z")
  pub text_behind_z : IsUnread Constructor.Datetime (codes "2024-10-15T23:59:59ZZ")
  -- a day ends before hour 24, an hour before minute 60, and a minute before second 60
  pub hour_24 : IsUnread Constructor.Datetime (codes "2024-10-15T24:00:00Z")
  pub minute_60 : IsUnread Constructor.Datetime (codes "2024-10-15T23:60:00Z")
  pub second_60 : IsUnread Constructor.Datetime (codes "2024-10-15T23:59:60Z")
  -- milliseconds have three digits
  pub milliseconds : IsRead Constructor.Datetime (codes "2024-10-15T11:35:00.000Z")
  pub one_digit : IsUnread Constructor.Datetime (codes "2024-10-15T11:35:00.5Z")
  -- an offset has hours and minutes, of less than a day, and nothing behind them
  pub later : IsRead Constructor.Datetime (codes "2024-10-15T11:35:00+0100")
  pub earlier : IsRead Constructor.Datetime (codes "2024-10-15T11:35:00.000-2359")
  pub offset_of_a_day : IsUnread Constructor.Datetime (codes "2024-10-15T11:35:00+2400")
  pub offset_of_60_minutes : IsUnread Constructor.Datetime (codes "2024-10-15T11:35:00+0060")
  pub offset_of_99_minutes : IsUnread Constructor.Datetime (codes "2024-10-15T11:35:00+0099")
  pub text_behind_an_offset : IsUnread Constructor.Datetime (codes "2024-10-15T11:35:00+01000")

pub record TextExamples : Type 0 where
  pub addresses : AddressExamples
  pub decimals : DecimalExamples
  pub durations : DurationExamples
  pub datetimes : DatetimeExamples
