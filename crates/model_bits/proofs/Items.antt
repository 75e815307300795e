-- One item more on a line: its text, and what is held of the latest.
use Rattle.model_bits.proofs.Vocabulary.{◌≡◌, List, [], ◌∷◌, ◌++◌, refl, sym, flat_map_more, fold-append, flag, Item, item_text, line_text, or_later, latest_frame, item_octets, last_octets}

pub line_text-push : (items : List Item) (item : Item) → line_text (items ++ item ∷ []) ≡ line_text items ++ item_text item
line_text-push items item = sym (flat_map_more item_text flag items item)

pub last_octets-push : (items : List Item) (item : Item) → last_octets (items ++ item ∷ []) ≡ item_octets item
last_octets-push [] item = refl
last_octets-push (x ∷ []) item = refl
last_octets-push (x ∷ y ∷ items) item = last_octets-push (y ∷ items) item

pub latest-push : (items : List Item) (item : Item) → latest_frame (items ++ item ∷ []) ≡ or_later (latest_frame items) item
latest-push items item = fold-append or_later [] items (item ∷ [])
