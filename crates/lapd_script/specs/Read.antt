-- How a line of a script is read: what each first word takes, and what can be wrong with the words by themselves.
use Rattle.std.specs.Prelude.{ℕ, ◌-◌, ◌==◌, ◌&&◌, not, nat_le, Bool, if◌then◌else◌, List, [], ◌∷◌, length, get_or, take, drop, codes, bytes_eq, Option, Some, None, Result, Ok, Err}
use Rattle.lapd_frame.specs.declared.addresses.Side.TheVariants.{User}
use Rattle.lapd_frame.specs.declared.readings.Reading.TheVariants.{AnnexB}
use Rattle.lapd_script.specs.declared.kind.FaultKind.{FaultKind}
use Rattle.lapd_script.specs.declared.kind.FaultKind.TheVariants.{UnknownWord, BadNumberOfWords}
use Rattle.model_line.specs.declared.config.Config.{Config}
use Rattle.model_line.specs.Usual.{usual}
use Rattle.lapd_script.specs.declared.command.Durations.{Durations}
use Rattle.lapd_script.specs.declared.word.Word.{Word}
use Rattle.lapd_script.specs.declared.word.Word.TheVariants.{Card, Rx, In, Failed, Next, Down, AskTei, Pull, Wait, Timers, Stored, Losses, Save, Restore, Counters, Ask}
use Rattle.lapd_script.specs.Words.{words_of, no_words, one_word, two_words, three_words}
use Rattle.lapd_script.specs.Number.{number}
use Rattle.lapd_script.specs.Octets.{octets}
use Rattle.lapd_script.specs.Cause.{cause}
use Rattle.lapd_script.specs.Word.{word_named, carries_octets}
use Rattle.lapd_script.specs.Meaning.{Meaning, skip, card, rx, into, failed, next, down, ask_tei, pull, wait, timers, stored, losses, save, restore, counters, ask}

-- the second step, where the first one found no fault
infixl 10 ◌>>=◌
abbrev pub ◌>>=◌ : {A B : Type 0} → Result A FaultKind → (A → Result B FaultKind) → Result B FaultKind
Ok x >>= f = f x
Err kind >>= f = Err kind

-- LINE and TEI: their ranges as numbers of a script
abbrev pub line_number : List ℕ → Result ℕ FaultKind
line_number word = number 0 65535 word

-- LINE alone
abbrev pub line_of : List (List ℕ) → Result ℕ FaultKind
line_of words = one_word words >>= line_number

abbrev pub tei_number : List ℕ → Result ℕ FaultKind
tei_number word = number 0 255 word

-- the nine numbers of a card line: the window of packet links is that of call control, and what they do not say is as usual
abbrev pub three_numbers : List ℕ → List ℕ → List ℕ → Result (ℕ × ℕ × ℕ) FaultKind
three_numbers first second third = do
  a ← number 0 65535 first
  b ← number 0 65535 second
  c ← number 0 65535 third
  Ok (a, b, c)

abbrev pub numbered : ℕ × ℕ × ℕ → ℕ × ℕ × ℕ → ℕ × ℕ × ℕ → Config
numbered a b c =
    record usual { lines = a.0; terminals = a.1; k = a.2; queue = b.0; unit_queue = b.1; control = b.2; slots = c.0; n201 = c.1; n200 = c.2; k16 = a.2 }

abbrev pub nine_numbers : List (List ℕ) → Result Config FaultKind
nine_numbers (lines ∷ terminals ∷ k ∷ queue ∷ unit_queue ∷ control ∷ slots ∷ n201 ∷ n200 ∷ []) = do
  a ← three_numbers lines terminals k
  b ← three_numbers queue unit_queue control
  c ← three_numbers slots n201 n200
  Ok (numbered a b c)
nine_numbers _ = Err BadNumberOfWords

-- nine numbers, or ten: the tenth is the window of packet links. After them stands the word `user`, if the card is the user's
-- side of its lines; and after that a number, its seed, if it is a terminal and no trunk's end
abbrev pub with_k16 : ℕ → Config → Config
with_k16 k16 numbers = record numbers { k16 = k16 }

abbrev pub of_user : Config → Config
of_user numbers = record numbers { side = User }

abbrev pub with_seed : ℕ → Config → Config
with_seed seed numbers = record numbers { seed = Some seed }

abbrev pub ten_numbers : List (List ℕ) → List ℕ → Result Config FaultKind
ten_numbers nine k16 = do
  numbers ← nine_numbers nine
  k16 ← number 0 65535 k16
  Ok (with_k16 k16 numbers)

abbrev pub for_user : Result Config FaultKind → Result Config FaultKind
for_user read = do
  numbers ← read
  Ok (of_user numbers)

abbrev pub for_terminal : Result Config FaultKind → List ℕ → Result Config FaultKind
for_terminal read seed = do
  numbers ← for_user read
  seed ← number 0 65535 seed
  Ok (with_seed seed numbers)

abbrev pub is_user : List ℕ → Bool
is_user word = bytes_eq word (codes "user")

abbrev pub more_numbers : List (List ℕ) → List (List ℕ) → Result Config FaultKind
more_numbers nine [] = nine_numbers nine
more_numbers nine (last ∷ []) = if is_user last then for_user (nine_numbers nine) else ten_numbers nine last
more_numbers nine (word ∷ last ∷ []) =
    if is_user last then for_user (ten_numbers nine word)
    else if is_user word then for_terminal (nine_numbers nine) last
    else Err BadNumberOfWords
more_numbers nine (k16 ∷ word ∷ last ∷ []) = if is_user word && not (is_user last) then for_terminal (ten_numbers nine k16) last else Err BadNumberOfWords
more_numbers nine (k16 ∷ word ∷ last ∷ more ∷ words) = Err BadNumberOfWords

abbrev pub side_numbers : List (List ℕ) → Result Config FaultKind
side_numbers words = more_numbers (take 9 words) (drop 9 words)

-- and behind these the word `sapi` with a number, if the second service has another SAPI than 16
abbrev pub with_sapi : ℕ → Config → Config
with_sapi sapi numbers = record numbers { sapi = sapi }

abbrev pub for_sapi : Result Config FaultKind → List ℕ → Result Config FaultKind
for_sapi read sapi = do
  numbers ← read
  sapi ← number 0 65535 sapi
  Ok (with_sapi sapi numbers)

abbrev pub names_sapi : List (List ℕ) → Bool
names_sapi words = nat_le 2 (length words) && bytes_eq (get_or words (length words - 2) []) (codes "sapi")

abbrev pub sapi_numbers : List (List ℕ) → Result Config FaultKind
sapi_numbers words =
    if names_sapi words
    then for_sapi (side_numbers (take (length words - 2) words)) (get_or words (length words - 1) [])
    else side_numbers words

-- and last the word `annex-b`, if the tables are read by annex B: else the line is read as it is without the word
abbrev pub by_annex_b : Config → Config
by_annex_b numbers = record numbers { reading = AnnexB }

abbrev pub for_annex_b : Result Config FaultKind → Result Config FaultKind
for_annex_b read = do
  numbers ← read
  Ok (by_annex_b numbers)

abbrev pub names_annex_b : List (List ℕ) → Bool
names_annex_b words = nat_le 1 (length words) && bytes_eq (get_or words (length words - 1) []) (codes "annex-b")

abbrev pub card_numbers : List (List ℕ) → Result Config FaultKind
card_numbers words = if names_annex_b words then for_annex_b (sapi_numbers (take (length words - 1) words)) else sapi_numbers words

-- how many milliseconds a timer runs: one to those of an hour
abbrev pub duration : List ℕ → Result ℕ FaultKind
duration word = number 1 3600000 word

-- T200, T203 and T201, and T202, which runs two seconds if it is left out (clause 5.9.7)
abbrev pub four_durations : List ℕ → List ℕ → List ℕ → Result ℕ FaultKind → Result Durations FaultKind
four_durations t200 t203 t201 fourth = do
  t200 ← duration t200
  t203 ← duration t203
  t201 ← duration t201
  t202 ← fourth
  Ok (record { t200 = t200; t203 = t203; t201 = t201; t202 = t202 })

abbrev pub durations : List (List ℕ) → Result Durations FaultKind
durations (t200 ∷ t203 ∷ t201 ∷ []) = four_durations t200 t203 t201 (Ok 2000)
durations (t200 ∷ t203 ∷ t201 ∷ t202 ∷ []) = four_durations t200 t203 t201 (duration t202)
durations _ = Err BadNumberOfWords

-- what each first word takes after it
abbrev pub read_as : Word → List (List ℕ) → Result Meaning FaultKind
read_as (Card kind) words = do
  numbers ← card_numbers words
  Ok (card kind numbers)
read_as Rx words = do
  word ← two_words words
  line ← line_number word.0
  octets ← octets word.1
  Ok (rx line octets)
read_as In words = do
  word ← two_words words
  line ← line_number word.0
  octets ← octets word.1
  Ok (into line octets)
read_as Failed words = do
  word ← two_words words
  line ← line_number word.0
  fault ← cause word.1
  Ok (failed line fault)
read_as Next words = do
  line ← line_of words
  Ok (next line)
read_as Down words = do
  line ← line_of words
  Ok (down line)
read_as AskTei words = do
  line ← line_of words
  Ok (ask_tei line)
read_as Pull words = do
  word ← two_words words
  line ← line_number word.0
  count ← number 1 4096 word.1
  Ok (pull line count)
read_as Wait words = do
  word ← one_word words
  milliseconds ← number 0 3600000 word
  Ok (wait milliseconds)
read_as Timers words = do
  durations ← durations words
  Ok (timers durations)
read_as Stored words = do
  none ← no_words words
  Ok stored
read_as Losses words = do
  none ← no_words words
  Ok losses
read_as Save words = do
  none ← no_words words
  Ok save
read_as Restore words = do
  none ← no_words words
  Ok restore
read_as (Counters group) words = do
  line ← line_of words
  Ok (counters line group)
read_as (Ask what) words = if carries_octets what
    then (do
      word ← three_words words
      line ← line_number word.0
      tei ← tei_number word.1
      octets ← octets word.2
      Ok (ask line tei what octets))
    else (do
      word ← two_words words
      line ← line_number word.0
      tei ← tei_number word.1
      Ok (ask line tei what []))

abbrev pub read_after : Option Word → List (List ℕ) → Result Meaning FaultKind
read_after None words = Err UnknownWord
read_after (Some word) words = read_as word words

abbrev pub read_words : List (List ℕ) → Result Meaning FaultKind
read_words [] = Err UnknownWord
read_words (name ∷ words) = read_after (word_named name) words

-- What a line says, or the first thing that is wrong with it by itself: empty lines and those that begin with `#` are
-- skipped.
abbrev pub read : List ℕ → Result Meaning FaultKind
read [] = Ok skip
read (octet ∷ more) = if octet == 35 then Ok skip else read_words (words_of (octet ∷ more))
