-- What is said of the rows of a table of counters with their names is said of the counters.
use Rattle.lapd_transcript.proofs.Vocabulary.{◌≡◌, ◌++◌, ℕ, List, [], ◌∷◌, refl, sym, ap, ◌∙◌, append_assoc, map, flat_map, list_all, Bor, Counter, Counters, group_name, own_name, row, row_text, value_text, with_name, is_zero, counter_text}
use Rattle.lapd_count.specs.declared.counter.Counter.TheVariants.{Frames}
use Rattle.lapd_count.specs.declared.counter.Way.TheVariants.{Heard}
use Rattle.lapd_count.specs.declared.kinds.Kind.TheVariants.{Information}
use Rattle.lapd_count.specs.Counters.{value_in}
use Rattle.lapd_transcript.proofs.Known.{nowhere}
use Rattle.lapd_transcript.specs.Text.{line_text}
use Rattle.std.specs.Prelude.{◌==◌, if◌then◌else◌, codes, decimal}
use Rattle.std.proofs.lemmas.List.Folds.{list_all-map}

-- the row past the last one
abbrev pub no_row : Counter × Bor (List ℕ)
no_row = (Frames Heard Information, nowhere)

-- the line of a row is that of its counter
joined_name : (line : ℕ) (group own : List ℕ) (value : ℕ)
    → value_text line (group ++ own) value ≡ (if value == 0 then [] else line_text line (codes "counter " ++ group ++ own ++ codes " " ++ decimal value))
joined_name line group own value = simp append_assoc refl

row_is : (line : ℕ) (values : Counters) (counter : Counter) → row_text line values (with_name counter) ≡ counter_text line values counter
row_is line values counter = joined_name line (group_name counter) (own_name counter) (value_in values counter)

texts_are : (line : ℕ) (values : Counters) (counters : List Counter) → flat_map (row_text line values) (map with_name counters) ≡ flat_map (counter_text line values) counters
texts_are line values [] = refl
texts_are line values (counter ∷ more) =
    ap (λ text. text ++ flat_map (row_text line values) (map with_name more)) (row_is line values counter)
    ∙ ap (λ text. counter_text line values counter ++ text) (texts_are line values more)

flat_map-map : {X Y A : Type 0} (f : Y → List A) (h : X → Y) (xs : List X) → flat_map f (map h xs) ≡ flat_map (λ x. f (h x)) xs
flat_map-map f h [] = refl
flat_map-map f h (x ∷ xs) = ap (λ l. f (h x) ++ l) (flat_map-map f h xs)

module _ (rows : List (Counter × Bor (List ℕ))) (counters : List Counter) (are : map row rows ≡ map with_name counters) (values : Counters) where
  pub zero_by_rows : list_all (λ name. is_zero values (row name).0) rows ≡ list_all (is_zero values) counters
  zero_by_rows =
      sym (list_all-map (λ (name : Counter × List ℕ). is_zero values name.0) row rows)
      ∙ ap (list_all (λ (name : Counter × List ℕ). is_zero values name.0)) are
      ∙ list_all-map (λ (name : Counter × List ℕ). is_zero values name.0) with_name counters

  pub text_by_rows : (line : ℕ) → flat_map (λ name. row_text line values (row name)) rows ≡ flat_map (counter_text line values) counters
  text_by_rows line =
      sym (flat_map-map (row_text line values) row rows) ∙ ap (flat_map (row_text line values)) are ∙ texts_are line values counters
