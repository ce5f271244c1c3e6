-- The numbers of the reasons for which a text is refused.
use Rattle.std.specs.Prelude.{ℕ}
use Rattle.component_items.specs.declared.refusal.Why.{Why}
use Rattle.component_items.specs.declared.refusal.Why.TheVariants.{BadUtf8, BadToken, Unexpected, UnknownName, NameTaken, WrongPlace, NumberRange, TooDeep, TooLarge, TooManyLanes, UnclosedTag}

abbrev pub number_of : Why → ℕ
number_of BadUtf8 = 1
number_of BadToken = 2
number_of Unexpected = 3
number_of UnknownName = 4
number_of NameTaken = 5
number_of WrongPlace = 6
number_of NumberRange = 7
number_of TooDeep = 8
number_of (TooLarge count) = 9
number_of TooManyLanes = 10
number_of UnclosedTag = 11
