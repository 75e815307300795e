-- Which aims of a line are none of TEI management, and that what a line tells behind what TEI management tells changes nothing.
use Rattle.laws_trace.proofs.Vocabulary.{arith, ◌≡◌, ℕ, ◌&&◌, Bool, true, false, cond, List, [], ◌∷◌, ◌++◌, Option, Some, None, refl, sym, ap, ◌∙◌, append-nil, append_assoc, option_map_or, ◌⊎◌, All, filter, Result, Ok, All-nil, All-cons, All-head, All-tail, All-append, filter-append, ReadFault, Note, Call, Packet, Parts, Change, Left, Link, Terms, notes-own, Config, Aim}
use Rattle.laws_trace.proofs.Vocabulary.{at_management, of_change, Line, link_in, terms, aim_of_reading, aim_of_heard, manages, line_of_link as of_link, result_ok, frame_of, Managed, message_served, is_of_teis, is_of_line, link_told as told, LinkEvent, cleared, StreamEvent, tei_message}
use Rattle.model_link.proofs.OwnNotes.{IsOwn}
use Rattle.std.specs.Option.{option_and_then, unwrap_or}
use Rattle.laws_trace.specs.ManagingTerminal as seen
use Rattle.laws_trace.specs.ManagingTerminal.{OfTerminal, is_message}
use Rattle.laws_trace.proofs.Vocabulary.{LineTold}
use Rattle.model_line.specs.Line.{is_terminal}
use Rattle.laws_trace.specs.Managing.{by_frame}

-- Notes that are none of a TEI.
abbrev pub IsOther : Note → Type 0
IsOther n = is_of_teis n ≡ false

others-own : (t : Terms) (ns : List Note) → All (IsOwn t) ns → All IsOther ns
others-own t [] h = All-nil IsOther
others-own t (n ∷ ns) h = All-cons IsOther n ns (grind (arith, All-head)) (others-own t ns (All-tail (IsOwn t) n ns h))

pub link-others : (t : Terms) (e : LinkEvent) (l : Link) → All IsOther (told t e l).notes
link-others t e l = others-own t (told t e l).notes (notes-own t e l)

pub none-of-teis : (ns : List Note) → All IsOther ns → filter is_of_teis ns ≡ []
none-of-teis [] h = refl
none-of-teis (n ∷ ns) h = ap (λ b. cond b (n ∷ filter is_of_teis ns) (filter is_of_teis ns)) (All-head IsOther n ns h) ∙ none-of-teis ns (All-tail IsOther n ns h)

-- The orders of a link are none of T201.
pub told-orders : (t : Terms) (e : LinkEvent) (l : Link) → filter is_of_line (told t e l).orders ≡ []
told-orders t e l = grind (arith, filter-append)

-- What TEI management tells, and what its links tell behind.
module _ (c : Config) (t : LineTold) (l : Line) where
  pub record Behind (o : Option Change) : Type 0 where
    pub others : List Note
    pub are : All IsOther others
    pub notes : (of_change c o t l).told.notes ≡ t.notes ++ others
    pub orders : filter is_of_line (of_change c o t l).told.orders ≡ filter is_of_line t.orders
    pub lost : (of_change c o t l).told.lost ≡ t.lost
    pub stays : (of_change c o t l).line.management ≡ l.management
    pub own : (of_change c o t l).line.own ≡ l.own

  pub behind : (o : Option Change) → Behind o
  behind (Some (Left tei place)) =
      let call = of_link c Call tei place cleared l in
      let packet = of_link c Packet tei place cleared call.line in
      record {
        others = call.told.notes ++ packet.told.notes;
        are =
            All-append IsOther call.told.notes packet.told.notes (link-others (terms c Call tei) cleared (link_in l Call place))
            (link-others (terms c Packet tei) cleared (link_in call.line Packet place));
        notes = append_assoc t.notes call.told.notes packet.told.notes;
        orders =
            filter-append is_of_line (call.told.orders ++ packet.told.orders) t.orders ∙ ap (λ xs. xs ++ filter is_of_line t.orders)
            (filter-append is_of_line call.told.orders packet.told.orders
            ∙ ap (λ xs. xs ++ filter is_of_line packet.told.orders) (told-orders (terms c Call tei) cleared (link_in l Call place))
            ∙ told-orders (terms c Packet tei) cleared (link_in call.line Packet place));
        lost = refl;
        stays = refl;
        own = refl;
      }
  behind other = record { others = []; are = All-nil IsOther; notes = sym (append-nil t.notes); orders = refl; lost = refl; stays = refl; own = refl }

-- Which aims are of TEI management.
abbrev pub is_management : Aim → Bool
is_management (at_management e) = true
is_management other = false

-- The information of a message to TEI management of the side.
abbrev pub heeds : Config → Parts → Bool
heeds c f = cond (is_terminal c) (is_message c f && f.address.command) (manages c.side && is_message c f)

abbrev pub message_by : Config → Option Parts → Option (List ℕ)
message_by c None = None
message_by c (Some f) = cond (heeds c f) (Some f.info) None

abbrev pub message_in : Config → StreamEvent → Option (List ℕ)
message_in c e = message_by c (frame_of c e)

-- What an observer knows after a message of a terminal.
abbrev pub by_message : Config → Managed → List ℕ → Managed
by_message c w info = unwrap_or (message_served c w info) w

pub message-is-read : (c : Config) (w : Managed) (e : StreamEvent) → is_terminal c ≡ false → option_map_or (by_frame c w) (frame_of c e) w ≡ option_map_or (by_message c w) (message_in c e) w
message-is-read c w e net = go (frame_of c e)
  where
    by-test : (b : Bool) (info : List ℕ) → cond b (by_message c w info) w ≡ option_map_or (by_message c w) (cond b (Some info) None) w
    by-test true info = refl
    by-test false info = refl

    go : (o : Option Parts) → option_map_or (by_frame c w) o w ≡ option_map_or (by_message c w) (message_by c o) w
    go None = refl
    go (Some f) =
        by-test (manages c.side && is_message c f) f.info
        ∙ sym (ap (λ b. option_map_or (by_message c w) (cond (cond b (is_message c f && f.address.command) (manages c.side && is_message c f)) (Some f.info) None) w) net)

-- The same of a terminal.
pub message-is-read-there : (c : Config) (k : OfTerminal) (e : StreamEvent) → is_terminal c ≡ true
    → option_and_then (seen.by_frame c k) (frame_of c e) ≡ option_and_then (λ info. seen.by_message c info k) (message_in c e)
message-is-read-there c k e is = go (frame_of c e)
  where
    by-test : (b : Bool) (info : List ℕ) → cond b (seen.by_message c info k) None ≡ option_and_then (λ info. seen.by_message c info k) (cond b (Some info) None)
    by-test true info = refl
    by-test false info = refl

    go : (o : Option Parts) → option_and_then (seen.by_frame c k) o ≡ option_and_then (λ info. seen.by_message c info k) (message_by c o)
    go None = refl
    go (Some f) =
        by-test (is_message c f && f.address.command) f.info
        ∙ sym (ap (λ b. option_and_then (λ info. seen.by_message c info k) (cond (cond b (is_message c f && f.address.command) (manages c.side && is_message c f)) (Some f.info) None)) is)

pub record OfMessage (aim : Aim) (said : Option (List ℕ)) : Type 0 where
  pub info : List ℕ
  pub aim_is : aim ≡ at_management (tei_message info)
  pub said_is : said ≡ Some info

pub record OfOther (aim : Aim) (said : Option (List ℕ)) : Type 0 where
  pub aim_is : is_management aim ≡ false
  pub said_is : said ≡ None

abbrev pub Cases : Aim → Option (List ℕ) → Type 0
Cases aim said = OfMessage aim said ⊎ OfOther aim said

module _ (c : Config) (l : Line) where
  by-reading : (r : Result Parts ReadFault) → Cases (aim_of_reading c l r) (message_by c (result_ok r))
  by-reading (Ok f) = grind arith
  by-reading r = grind arith

  pub heard-cases : (e : StreamEvent) → Cases (aim_of_heard c l e) (message_in c e)
  heard-cases e = grind (arith, by-reading)
