-- What is wrong with a line of a script, in words (profile).
use Rattle.std.specs.Prelude.{ℕ, List, codes}
use Rattle.lapd_script.specs.declared.kind.FaultKind.{FaultKind}
use Rattle.lapd_script.specs.declared.kind.FaultKind.TheVariants.{TooLong, UnknownWord, BadNumberOfWords, BadNumber, BadOctets, BadCause, NoCard, SecondCard, BadCard, WrongCard, BadLine, BadFrame, TimeOver}

abbrev pub kind_words : FaultKind → List ℕ
kind_words TooLong = codes "too long"
kind_words UnknownWord = codes "unknown word"
kind_words BadNumberOfWords = codes "bad number of words"
kind_words BadNumber = codes "bad number"
kind_words BadOctets = codes "bad octets"
kind_words BadCause = codes "bad cause"
kind_words NoCard = codes "no card"
kind_words SecondCard = codes "second card"
kind_words BadCard = codes "bad card"
kind_words WrongCard = codes "wrong card"
kind_words BadLine = codes "bad line"
kind_words BadFrame = codes "bad frame"
kind_words TimeOver = codes "time over"
