-- How many octets the parts of an image have: the configuration, links, TEI management and lines.
use Rattle.std.proofs.Common.{arith, lit<, ◌≡◌, ℕ, suc, ◌+◌, ◌*◌, ◌%◌, ◌^◌, ◌<◌, ◌≤◌, Bool, true, false, cond, List, [], ◌∷◌, ◌++◌, length, Option, Some, None, refl, subst, length-drop}
use Rattle.std.specs.List.{range_with_len}
use Rattle.std.specs.Prelude.{All, IfSome, flat_map, map, sum_by}
use Rattle.std.proofs.lemmas.List.Elements.{All-drop, All-from_get_or}
use Rattle.std.proofs.lemmas.List.FromFn.{length-range_with_len}
use Rattle.lapd_frame.specs.declared.services.Service.{Service}
use Rattle.lapd_frame.specs.declared.services.Service.TheVariants.{Call, Packet}
use Rattle.model_teis.specs.network.Machine.{Management}
use Rattle.model_teis.specs.network.Messages.{information_of}
use Rattle.model_teis.specs.Table.{IsSoundTable, IsAt, Places, is_on}
use Rattle.model_teis.specs.network.Sound as tei
use Rattle.model_teis.specs.declared.network.check.Check.{Check}
use Rattle.lapd_frame.specs.declared.readings.Reading.{Reading}
use Rattle.model_teis.specs.declared.network.check.Period.{Period}
use Rattle.model_teis.specs.declared.network.check.Period.TheVariants.{First, Second, Settling}
use Rattle.model_teis.specs.declared.network.messages.Message.{Message}
use Rattle.model_teis.specs.declared.network.messages.Message.TheVariants.{IdentityAssigned, IdentityDenied, IdentityCheckRequest, IdentityRemove}
use Rattle.model_teis.specs.declared.network.remembered.Remembered.{Remembered}
use Rattle.model_teis.proofs.Tables.{on-range}
use Rattle.model_teis.specs.terminal.Messages as terminals
use Rattle.model_teis.specs.terminal.Sound as terminal
use Rattle.model_teis.specs.declared.terminal.messages.Message.{Message as OwnMessage}
use Rattle.model_teis.specs.declared.terminal.messages.Message.TheVariants as own_message
use Rattle.model_teis.specs.declared.terminal.procedure.Procedure.{Procedure}
use Rattle.model_teis.specs.declared.terminal.procedure.Procedure.TheVariants.{Asking, Verifying}
use Rattle.model_teis.proofs.OfTerminal.SoundWords.{room}
use Rattle.model_bits.specs.Bits.{bit_value, number_of}
use Rattle.model_bits.specs.StuffingLaws.{AreOctets}
use Rattle.model_bits.proofs.BitLemmas.{number_of-lt}
use Rattle.model_link.specs.declared.frames.ControlFrame.{ControlFrame}
use Rattle.model_link.specs.declared.states.State.{State}
use Rattle.model_link.specs.declared.states.State.TheVariants.{TeiAssigned, AwaitingEstablishment, AwaitingRelease, Established, TimerRecovery}
use Rattle.std.proofs.Math.Nat.{pow-le-pow_right}
use Rattle.model_link.specs.Link.{Link, state_number, queue_of, outstanding}
use Rattle.model_link.specs.Sound as links
use Rattle.model_line.specs.declared.config.Config.{Config}
use Rattle.model_line.specs.Line.{Line, Own, UnitData, is_terminal, link_count, link_at, place_at, service_at, tei_at, terms, window, terminal_with}
use Rattle.model_line.specs.Sound.{IsInRange, IsSound, IsSoundAt, IsOfSide, IsUnitData}
use Rattle.model_line.specs.Stored.{slots_by_link, slots_of}
use Rattle.model_line.proofs.Ranges.{Ranges, ranges_of}
use Rattle.lapd_image.specs.Numbers.{number, list_of, contents}
use Rattle.model_line.specs.ConfigImage.{config_flags, seed, config}
use Rattle.model_link.specs.Image.{control_frame, state_octet, link_flags, counted_of, counts, link, IsSavedLink}
use Rattle.model_teis.specs.TableImage.{place}
use Rattle.model_teis.specs.network.Image.{remembered, period_number, check, management}
use Rattle.model_teis.specs.terminal.Image.{procedure}
use Rattle.model_line.specs.Image.{own, service_bit, unit, teis, link_if, link_numbered, line, IsSavedLine}
use Rattle.model_line.specs.Most.{most_teis, most_link}
use Rattle.model_image.proofs.Fits.{Fits, fits-less, fits-nil, fits-cons, fits-append, fits-number, fits-each, fits-all, fits-list, HasContents, fits-contents, field-fits}
use Rattle.model_line.proofs.ImageRead.{at-number}
use Rattle.model_line.proofs.Numbers.{below}

-- the bits of at most eight tests
pub bits-small : (bs : List Bool) → length bs ≤ 8 → number_of bs < 256
bits-small bs few = let less : number_of bs < 2 ^ length bs = number_of-lt bs in go (length bs) few less
  where
    go : (n : ℕ) → n ≤ 8 → number_of bs < 2 ^ n → number_of bs < 256
    go n few less = let most : 2 ^ n ≤ 2 ^ 8 = pow-le-pow_right (lit< tt) few in omega (arith, less, most)

-- the configuration
seed-fits : (o : Option ℕ) → Fits 2 (seed o)
seed-fits None = fits-nil 2
seed-fits (Some n) = fits-number 2 n

pub config-fits : (c : Config) → IsInRange c → Fits 16 (config c)
config-fits c range =
    let r : Ranges c = ranges_of c range in
    let pairs : Fits 6 (number 2 c.slots ++ (number 2 c.n201 ++ seed c.seed)) =
    fits-append 2 4 (number 2 c.slots) (number 2 c.n201 ++ seed c.seed) (fits-number 2 c.slots) (fits-append 2 2 (number 2 c.n201) (seed c.seed) (fits-number 2 c.n201) (seed-fits c.seed)) in
    fits-cons (number_of (config_flags c)) 15 _ (bits-small (config_flags c) (omega arith))
    (fits-cons c.lines 14 _ (omega (arith, r.lines.most))
    (fits-cons c.terminals 13 _ (omega (arith, r.terminals.most))
    (fits-cons c.k 12 _ (omega (arith, r.k.most))
    (fits-cons c.k16 11 _ (omega (arith, r.k16.most))
    (fits-cons c.queue 10 _ (omega (arith, r.queue.most))
    (fits-cons c.unit_queue 9 _ (omega (arith, r.unit_queue.most))
    (fits-cons c.control 8 _ (omega (arith, r.control.most))
    (fits-cons c.n200 7 _ (omega (arith, r.n200.most))
    (fits-cons c.sapi 6 _ (omega (arith, r.sapi.most)) pairs)))))))))

-- a control frame
frame-fits : (f : ControlFrame) → Unit {0} → Fits 3 (control_frame f)
frame-fits f any = fits-cons (bit_value f.command) 2 _ (small f.command) (field-fits f.control)
  where
    small : (b : Bool) → bit_value b < 256
    small true = lit< tt
    small false = lit< tt

-- a link
state-low : (s : State) → state_number s < 9
state-low TeiAssigned = lit< tt
state-low AwaitingEstablishment = lit< tt
state-low AwaitingRelease = lit< tt
state-low Established = lit< tt
state-low TimerRecovery = lit< tt

bit-low : (b : Bool) → bit_value b < 2
bit-low true = lit< tt
bit-low false = lit< tt

octet-small : (l : Link) → state_octet l < 256
octet-small l = omega (arith, state-low l.state, bit-low l.owed)

-- sizes of contents and their octets, together
both : (most : ℕ) (xs : List (List ℕ)) → All AreOctets xs → All (λ (c : List ℕ). length c ≤ most) xs → All (HasContents most) xs
both most xs octets sizes k d h = (octets k d h, sizes k d h)

module _ (c : Config) (range : IsInRange c) where
  window-small : (service : Service) → window c service ≤ 127
  window-small Call = (ranges_of c range).k.most
  window-small Packet = (ranges_of c range).k16.most

  link-fits : (service : Service) (tei : ℕ) (l : Link) → links.IsSound (terms c service tei) l → IsSavedLink l → Fits (most_link c + length (queue_of l) * (2 + c.n201)) (link l)
  link-fits service tei l sound saved =
      let r : Ranges c = ranges_of c range in
      let k : window c service ≤ 127 = window-small service in
      let within : l.s ≤ l.a + window c service = sound.within in
      let many : length (queue_of l) ≤ c.queue = sound.queue in
      let ring : length l.waiting ≤ c.control = sound.ring in
      let sizes : All (HasContents c.n201) (queue_of l) = both c.n201 (queue_of l) saved.octets (All-drop (λ (x : List ℕ). length x ≤ c.n201) l.a l.contents sound.sizes) in
      let queue : Fits (1 + length (queue_of l) * (2 + c.n201)) (list_of contents (queue_of l)) =
      fits-list (HasContents c.n201) contents (2 + c.n201) (fits-contents c.n201) (queue_of l) (omega (arith, many, r.queue.most)) sizes in
      let frames : Fits (1 + length l.waiting * 3) (list_of control_frame l.waiting) =
      fits-list (λ (f : ControlFrame). Unit {0}) control_frame 3 frame-fits l.waiting (omega (arith, ring, r.control.most)) (λ k d h. tt) in
      let counted : Fits 10 (counts l.counts) = fits-all (λ (n : ℕ). n ≤ 65535) (number 2) 2 (λ n h. fits-number 2 n) (counted_of l.counts) saved.counts in
      let all = fits-cons (state_octet l) _ _ (octet-small l)
      (fits-cons (number_of (link_flags l)) _ _ (bits-small (link_flags l) (omega arith))
      (fits-cons l.repeats _ _ (omega (arith, sound.repeats, r.n200.most))
      (fits-cons (l.a % 128) _ _ (omega arith)
      (fits-cons (outstanding l) _ _ (omega (arith, within, k))
      (fits-cons (l.r % 128) _ _ (omega arith)
      (fits-cons l.again _ _ (omega (arith, sound.again, sound.ordered, many, r.queue.most, length-drop l.a l.contents))
      (fits-append 10 _ (counts l.counts) _ counted
      (fits-append (1 + length (queue_of l) * (2 + c.n201)) (1 + length l.waiting * 3) (list_of contents (queue_of l)) (list_of control_frame l.waiting) queue frames)))))))) in
      fits-less _ (most_link c + length (queue_of l) * (2 + c.n201)) (link l) (omega (arith, ring)) all

  -- a link by its number: none where there is no TEI
  if-fits : (number : ℕ) (o : Option ℕ) (l : Link) → IsSoundAt c number l o → IsSavedLink l → Fits (most_link c + length (queue_of l) * (2 + c.n201)) (link_if o l)
  if-fits number None l sound saved = fits-nil _
  if-fits number (Some tei) l sound saved = link-fits (service_at number) tei l sound saved

-- TEI management of the network's side
remembered-fits : (places : Places) → IsSoundTable places → (m : Remembered) → is_on m.tei places ≡ true → Fits 3 (remembered m)
remembered-fits places sound m on =
    let low : m.tei ≤ 126 = on-range places m.tei sound on in
    fits-append 2 1 (number 2 m.ri) (m.tei ∷ []) (fits-number 2 m.ri) (fits-cons m.tei 0 [] (omega (arith, low)) (fits-nil 0))

period-small : (p : Period) → period_number p < 256
period-small First = lit< tt
period-small Second = lit< tt
period-small Settling = lit< tt

check-fits : (reading : Reading) (places : Places) → IsSoundTable places → (o : Option Check) → IfSome o (tei.IsSoundCheck reading places) → Fits 4 (check o)
check-fits reading places sound None ok = fits-cons 0 3 [] (lit< tt) (fits-nil 3)
check-fits reading places sound (Some c) ok =
    let low : c.tei ≤ 126 = on-range places c.tei sound ok.on_line in
    fits-cons (period_number c.period) 3 _ (period-small c.period)
    (fits-cons c.tei 2 _ (omega (arith, low)) (fits-cons c.first 1 _ (omega (arith, ok.first)) (fits-cons c.second 0 [] (omega (arith, ok.second)) (fits-nil 0))))

message-length : (m : Message) → length (information_of m) ≡ 5
message-length (IdentityAssigned ri tei) = refl
message-length (IdentityDenied ri tei) = refl
message-length (IdentityCheckRequest tei) = refl
message-length (IdentityRemove tei) = refl

message-fits : (m : Message) → AreOctets (information_of m) → Fits 5 (information_of m)
message-fits m octets = record { octets = octets; few = omega (arith, message-length m) }

management-fits : (m : Management) → tei.IsSound m → length m.to_check ≤ 8 → All (λ (x : Message). AreOctets (information_of x)) m.waiting → Fits 39 (management m)
management-fits m sound dues octets =
    let few : length m.remembered ≤ 4 = sound.memory.few in
    let queue : length m.waiting ≤ 4 = sound.queue.few in
    let memory : Fits (1 + length m.remembered * 3) (list_of remembered m.remembered) =
    fits-list (λ (r : Remembered). is_on r.tei m.places ≡ true) remembered 3 (remembered-fits m.places sound.table) m.remembered (omega (arith, few)) sound.memory.on_line in
    let messages : Fits (1 + length m.waiting * 5) (list_of information_of m.waiting) =
    fits-list (λ (x : Message). AreOctets (information_of x)) information_of 5 message-fits m.waiting (omega (arith, queue)) octets in
    fits-less _ 39 (management m) (omega (arith, few, queue))
    (fits-append (1 + length m.remembered * 3) _ (list_of remembered m.remembered) _ memory
    (fits-append 4 _ (check m.check) _ (check-fits m.reading m.places sound.table m.check sound.checked)
    (fits-cons (number_of m.to_check) (1 + length m.waiting * 5) _ (bits-small m.to_check dues) messages)))

-- and of a terminal
procedure-fits : (places : Places) → IsSoundTable places → (o : Option Procedure) → IfSome o (terminal.IsSoundProcedure places) → Fits 4 (procedure o)
procedure-fits places sound None ok = fits-cons 0 3 [] (lit< tt) (fits-nil 3)
procedure-fits places sound (Some (Asking ri attempts)) ok =
    fits-cons 1 3 _ (lit< tt) (fits-cons attempts 2 _ (omega (arith, ok.2)) (fits-number 2 ri))
procedure-fits places sound (Some (Verifying tei attempts)) ok =
    let low : tei ≤ 126 = on-range places tei sound ok.0 in
    fits-cons 2 3 _ (lit< tt) (fits-cons attempts 2 _ (omega (arith, ok.2)) (fits-cons tei 1 [] (omega (arith, low)) (fits-nil 1)))

own-length : (m : OwnMessage) → length (terminals.information_of m) ≡ 5
own-length (own_message.IdentityRequest ri) = refl
own-length (own_message.IdentityCheckResponse ri tei) = refl
own-length (own_message.IdentityVerify tei) = refl

own-message-fits : (m : OwnMessage) → AreOctets (terminals.information_of m) → Fits 5 (terminals.information_of m)
own-message-fits m octets = record { octets = octets; few = omega (arith, own-length m) }

own-fits : (m : Management) (o : Own) (count : ℕ) → length m.places ≡ count → terminal.IsSound (terminal_with m o) → All (λ (x : OwnMessage). AreOctets (terminals.information_of x)) o.waiting
    → Fits (7 + 5 * (count + 1)) (own o)
own-fits m o count places sound octets =
    let few : length m.places ≤ 8 = sound.few in
    let queue : length o.waiting ≤ length m.places + 1 = room (terminal_with m o) sound in
    let messages : Fits (1 + length o.waiting * 5) (list_of terminals.information_of o.waiting) =
    fits-list (λ (x : OwnMessage). AreOctets (terminals.information_of x)) terminals.information_of 5 own-message-fits o.waiting (omega (arith, few, queue)) octets in
    fits-less (2 + (4 + (1 + length o.waiting * 5))) (7 + 5 * (count + 1)) (own o) (omega (arith, places, queue))
    (fits-append 2 _ (number 2 o.number) _ (fits-number 2 o.number)
    (fits-append 4 (1 + length o.waiting * 5) (procedure o.procedure) _ (procedure-fits m.places sound.table o.procedure sound.runs) messages))

teis-fits : (t : Bool) (l : Line) (count : ℕ) → length l.management.places ≡ count → count ≤ 8 → tei.IsSound l.management → IsOfSide t l.management l.own
    → All (λ (x : Message). AreOctets (information_of x)) l.management.waiting → All (λ (x : OwnMessage). AreOctets (terminals.information_of x)) l.own.waiting
    → Fits (cond t (7 + 5 * (count + 1)) 39) (teis t l)
teis-fits true l count places few sound side messages octets = own-fits l.management l.own count places side.0 octets
teis-fits false l count places few sound side messages octets = management-fits l.management sound (omega (arith, sound.due.each, places, few)) messages

-- the places of the table
places-fit : (ps : Places) → ((i t : ℕ) → IsAt ps i t → t ≤ 126) → Fits (length ps) (map place ps)
places-fit [] low = fits-nil 0
places-fit (p ∷ ps) low = fits-less (1 + length ps) (length (p ∷ ps)) (map place (p ∷ ps)) (omega arith) (fits-cons (place p) (length ps) (map place ps) (small p (low 0)) (places-fit ps (λ i. low (suc i))))
  where
    small : (o : Option ℕ) → ((t : ℕ) → o ≡ Some t → t ≤ 126) → place o < 256
    small None low = lit< tt
    small (Some t) low = let most : t ≤ 126 = low t refl in omega (arith, most)

-- unit data
HasUnit : ℕ → UnitData → Type 0
HasUnit most u = (u.tei ≤ 127) × HasContents most u.contents

unit-fits : (most : ℕ) (u : UnitData) → HasUnit most u → Fits (1 + (2 + most)) (unit u)
unfolding HasUnit
unit-fits most u has = fits-cons (2 * u.tei + service_bit u.service) (2 + most) (contents u.contents) (small u.service has.0) (fits-contents most u.contents has.1)
  where
    small : (s : Service) → u.tei ≤ 127 → 2 * u.tei + service_bit s < 256
    small Call h = omega (arith, h)
    small Packet h = omega (arith, h)

units-have : (c : Config) (us : List UnitData) → All (IsUnitData c) us → All (λ (u : UnitData). AreOctets u.contents) us → All (HasUnit c.n201) us
unfolding HasUnit
units-have c us sound octets k d h = ((sound k d h).tei, (octets k d h, (sound k d h).size))

-- A line, without its counters and marks.
abbrev pub short_line : Config → ℕ
short_line c = c.terminals + most_teis c + (1 + c.unit_queue) + 1 + link_count c * most_link c

sums : (t e u q n m s w : ℕ) → u ≤ q → t + (e + ((1 + u * (1 + w)) + (1 + (n * m + s * w)))) ≤ (t + e + (1 + q) + 1 + n * m) + (u + s) * w
sums t e u q n m s w few = omega (arith, few)

pub line-fits : (c : Config) → IsInRange c → (l : Line) → IsSound c l × IsSavedLine c l → Fits (short_line c + slots_of c l * (2 + c.n201)) (line c l)
line-fits c range l whole =
    let sound : IsSound c l = whole.0 in
    let saved : IsSavedLine c l = whole.1 in
    let r : Ranges c = ranges_of c range in
    let numbers : List ℕ = range_with_len 0 (link_count c) in
    let within : All (λ (n : ℕ). n < link_count c) numbers = All-from_get_or (λ (n : ℕ). n < link_count c) numbers 0 (below (link_count c)) in
    let one : (n : ℕ) → n < link_count c → Fits (most_link c + slots_by_link l n * (2 + c.n201)) (link_numbered l n) =
    λ n h. if-fits c range n (tei_at (place_at n) l) (link_at n l) (sound.links n h) (at-number c l sound.count saved n h) in
    let links : Fits (length numbers * most_link c + sum_by (slots_by_link l) numbers * (2 + c.n201)) (flat_map (link_numbered l) numbers) =
    fits-each (λ (n : ℕ). n < link_count c) (link_numbered l) (most_link c) (2 + c.n201) (slots_by_link l) one numbers within in
    let links_few : Fits (link_count c * most_link c + sum_by (slots_by_link l) numbers * (2 + c.n201)) (flat_map (link_numbered l) numbers) =
    subst (λ (n : ℕ). Fits (n * most_link c + sum_by (slots_by_link l) numbers * (2 + c.n201)) (flat_map (link_numbered l) numbers)) (length-range_with_len 0 (link_count c)) links in
    let units_few : length l.units ≤ c.unit_queue = sound.few_units in
    let units : Fits (1 + length l.units * (1 + (2 + c.n201))) (list_of unit l.units) =
    fits-list (HasUnit c.n201) unit (1 + (2 + c.n201)) (unit-fits c.n201) l.units (omega (arith, units_few, r.unit_queue.most)) (units-have c l.units sound.units saved.units) in
    let turn : l.turn < 256 = omega (arith, sound.turn, r.terminals.most) in
    let places : Fits c.terminals (map place l.management.places) =
    subst (λ (n : ℕ). Fits n (map place l.management.places)) sound.places (places-fit l.management.places sound.management.table.range) in
    let managed : Fits (most_teis c) (teis (is_terminal c) l) =
    teis-fits (is_terminal c) l c.terminals sound.places r.terminals.most sound.management sound.own saved.messages saved.own in
    fits-less _ (short_line c + slots_of c l * (2 + c.n201)) (line c l)
    (sums c.terminals (most_teis c) (length l.units) c.unit_queue (link_count c) (most_link c) (sum_by (slots_by_link l) numbers) (2 + c.n201) units_few)
    (fits-append c.terminals _ (map place l.management.places) _ places
    (fits-append (most_teis c) _ (teis (is_terminal c) l) _ managed
    (fits-append (1 + length l.units * (1 + (2 + c.n201))) _ (list_of unit l.units) _ units
    (fits-cons l.turn _ (flat_map (link_numbered l) numbers) turn links_few))))
