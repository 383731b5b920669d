-- The numbers and places of refusals, and the numbers of layers.
use Rattle.std.specs.Prelude.{ℕ, Bool, nat_eq}
use Rattle.std.specs.Ordering.{on, eq_of_both}
use Rattle.refusal.specs.declared.refusal.Refusal.{Refusal}
use Rattle.refusal.specs.declared.refusal.Refusal.TheVariants.{TooLong, UnknownCommand, CutShort, OutOfOrder, OutOfRange, TooManyTransistors, Unread, LoadedAlready, BadCapacitances, TooManyModules, OtherClass, BadTwin, NoSuch, AlreadyWithdrawn, NotWithdrawn, BadEnd, NoCover, TooShort}
use Rattle.refusal.specs.declared.fault.Layer.{Layer}
use Rattle.refusal.specs.declared.fault.Layer.TheVariants.{Deck, Partition, Sheet}

-- the number of a refusal
abbrev pub number_of : Refusal → ℕ
number_of (TooLong n) = 1
number_of (UnknownCommand n) = 2
number_of (CutShort n) = 3
number_of (OutOfOrder n) = 4
number_of (OutOfRange n) = 5
number_of (TooManyTransistors n) = 6
number_of Unread = 11
number_of LoadedAlready = 12
number_of BadCapacitances = 13
number_of (TooManyModules n) = 14
number_of (OtherClass n) = 15
number_of (BadTwin n) = 16
number_of (NoSuch n) = 17
number_of (AlreadyWithdrawn n) = 18
number_of (NotWithdrawn n) = 19
number_of (BadEnd n) = 20
number_of NoCover = 21
number_of (TooShort n) = 31

-- the place of a refusal, 0 where it has none
abbrev pub place_of : Refusal → ℕ
place_of (TooLong n) = n
place_of (UnknownCommand n) = n
place_of (CutShort n) = n
place_of (OutOfOrder n) = n
place_of (OutOfRange n) = n
place_of (TooManyTransistors n) = n
place_of Unread = 0
place_of LoadedAlready = 0
place_of BadCapacitances = 0
place_of (TooManyModules n) = n
place_of (OtherClass n) = n
place_of (BadTwin n) = n
place_of (NoSuch n) = n
place_of (AlreadyWithdrawn n) = n
place_of (NotWithdrawn n) = n
place_of (BadEnd n) = n
place_of NoCover = 0
place_of (TooShort n) = n

-- the test whether two refusals have one number and one place
abbrev pub same_refusal : Refusal → Refusal → Bool
same_refusal = eq_of_both (on number_of nat_eq) (on place_of nat_eq)

-- the number of a layer
abbrev pub layer_number : Layer → ℕ
layer_number Deck = 1
layer_number Partition = 2
layer_number Sheet = 3
