-- What an observer of a terminal's line knows of its asking for a TEI, event by event.
use Rattle.laws_trace.proofs.Vocabulary.{◌≡◌, ℕ, ◌+◌, ◌*◌, ◌/◌, ◌%◌, ◌==◌, ◌&&◌, Bool, true, false, cond, not, List, [], ◌∷◌, length, filter, Option, Some, None, refl, ap, ◌∙◌, ◌⊎◌, inl, fold, list_any, is_some, nat_lt, nat_le, unwrap_or, option_and_then, true≢false, Config, Parts}
use Rattle.model_teis.specs.declared.terminal.procedure.Procedure.{Procedure}
use Rattle.model_teis.specs.declared.terminal.procedure.Procedure.TheVariants.{Asking, Verifying}
use Rattle.model_line.specs.Event.{Event, request}
use Rattle.model_line.specs.Request.{Request, AskTei, Down}
use Rattle.laws_trace.specs.AskingEnds.{is_result, is_t202}
use Rattle.laws_trace.specs.ManagingTerminal.{OfTerminal, verified, responds, by_assigned, by_denied, by_check, by_remove, by_five, by_message, by_frame, by_request, by_event, grants, is_verified, is_free, named, over, removed, leaves, ran_out, asks, verifies}
use Rattle.laws_trace.proofs.Vocabulary.{arith, take}
use Rattle.lapd_frame.specs.Readings.{by_reading}

-- The attempts of the asking that runs.
abbrev pub asking_of : Option Procedure → Option ℕ
asking_of None = None
asking_of (Some (Asking ri attempts)) = Some attempts
asking_of (Some (Verifying tei attempts)) = None

abbrev pub told_of : OfTerminal → ℕ
told_of t = length (filter is_result t.notes)

-- No result is told, and it goes on as it was; or it ends with one.
abbrev pub Stays : Option ℕ → OfTerminal → Type 0
Stays o t = (told_of t ≡ 0) × (asking_of t.procedure ≡ o)

abbrev pub Ends : OfTerminal → Type 0
Ends t = (told_of t ≡ 1) × (asking_of t.procedure ≡ None)

abbrev pub Goes : Option ℕ → OfTerminal → Type 0
Goes o t = Stays o t ⊎ ((is_some o ≡ true) × Ends t)

-- T202 expires.
abbrev pub Expires : Option ℕ → OfTerminal → Type 0
Expires None u = Stays None u
Expires (Some n) u = cond (nat_lt n 3) (Stays (Some (n + 1)) u) (Ends u)

-- A request that is granted begins another asking, and the line may be down.
abbrev breaks : OfTerminal → Request → Bool
breaks t Down = true
breaks t AskTei = list_any is_free t.places && not (is_some t.procedure)
breaks t other = false

abbrev pub breaks_by : OfTerminal → Event → Bool
breaks_by t (request r) = breaks t r
breaks_by t other = false

-- A step that leaves both.
pub record IsSame (t u : OfTerminal) : Type 0 where
  pub notes : u.notes ≡ t.notes
  pub asking : asking_of u.procedure ≡ asking_of t.procedure

verifying-is : (tei : ℕ) (o : Option Procedure) → is_verified tei o ≡ true → asking_of o ≡ None
verifying-is tei o is = grind (arith, true≢false)

pub verified-same : (tei : ℕ) (t : OfTerminal) → IsSame t (verified tei t)
verified-same tei t = grind (arith, over, verifying-is)

responds-same : (tei : ℕ) (t : OfTerminal) → IsSame t (responds t tei)
responds-same tei t = grind arith

along : {t u v : OfTerminal} → IsSame t u → IsSame u v → IsSame t v
along h j = record { notes = j.notes ∙ h.notes; asking = j.asking ∙ h.asking }

pub answers-same : (teis : List ℕ) (t : OfTerminal) → IsSame t (fold (λ t tei. responds (verified tei t) tei) t teis)
answers-same [] t = record { notes = refl; asking = refl }
answers-same (tei ∷ teis) t =
    along (along (verified-same tei t) (responds-same tei (verified tei t))) (answers-same teis (responds (verified tei t) tei))

module _ (t : OfTerminal) (quiet : t.notes ≡ []) where
  abbrev o : Option ℕ
  o = asking_of t.procedure

  abbrev then_ : Option OfTerminal → OfTerminal
  then_ d = unwrap_or d t

  none-told : told_of t ≡ 0
  none-told = ap (λ ns. length (filter is_result ns)) quiet

  nothing : Goes o t
  nothing = inl (none-told, refl)

  of-same : (u : OfTerminal) → IsSame t u → Goes o u
  of-same u h = inl (ap (λ ns. length (filter is_result ns)) (h.notes ∙ quiet), h.asking)

  assigned : (c : Config) (ri tei : ℕ) (p : Option Procedure) → t.procedure ≡ p → Goes (asking_of p) (then_ (by_assigned c ri tei p t))
  assigned c ri tei p is = grind (arith, verifies, none-told, nat_le, is_free, over)

  denied : (ri : ℕ) (p : Option Procedure) → t.procedure ≡ p → Goes (asking_of p) (then_ (by_denied ri p t))
  denied ri p is = grind (arith, none-told)

  checked : (teis : List ℕ) → Goes o (then_ (by_check teis t))
  checked teis = grind (arith, nothing, of-same, answers-same)

  is-removed : (tei : ℕ) → Goes o (removed tei t)
  is-removed tei = inl (refl, (verified-same tei t).asking)

  removes : (teis : List ℕ) → Goes o (then_ (by_remove teis t))
  removes teis = grind (arith, nothing, is-removed)

  either : (b : Bool) (x y : Option OfTerminal) → Goes o (then_ x) → Goes o (then_ y) → Goes o (then_ (cond b x y))
  either b x y h j = grind arith

  five : (c : Config) (info : List ℕ) → Goes o (then_ (by_five c info t))
  five c (entity ∷ high ∷ low ∷ type ∷ last ∷ []) =
      either (not (entity == 0x0F && last % 2 == 1)) _ _ nothing
      (either (type == 2) _ _ (assigned c (256 * high + low) (last / 2) t.procedure refl)
      (either (type == 3 && last / 2 == 127) _ _ (denied (256 * high + low) t.procedure refl)
      (either (type == 4) _ _ (checked (named (last / 2) t)) (either (type == 6) _ _ (removes (named (last / 2) t)) nothing))))
  five c [] = nothing
  five c (a ∷ []) = nothing
  five c (a ∷ b ∷ []) = nothing
  five c (a ∷ b ∷ d ∷ []) = nothing
  five c (a ∷ b ∷ d ∷ e ∷ []) = nothing
  five c (a ∷ b ∷ d ∷ e ∷ f ∷ g ∷ more) = nothing

  message : (c : Config) (info : List ℕ) → Goes o (then_ (by_message c info t))
  message c info = five c (by_reading c.reading info (take 5 info))

  frame : (c : Config) (f : Option Parts) → Goes o (then_ (option_and_then (by_frame c t) f))
  frame c f = grind (arith, nothing, either, message)

  pub expires : (p : Option Procedure) → t.procedure ≡ p → Expires (asking_of p) (ran_out p t)
  expires p is = grind (arith, none-told, nat_lt, asks, over, verifies, removed, verified-same)

  grants-same : (b : Bool) (u : OfTerminal) → IsSame t u → Goes o (then_ (grants b u t))
  grants-same b u h = grind (arith, none-told)

  requested : (r : Request) → breaks t r ≡ false → Goes o (then_ (by_request r t))
  requested r stays = grind (arith, is_free, is_some, grants, asks, true≢false, none-told, verifies, grants-same, leaves, verified-same, nothing)

  -- Any event except that of T202.
  pub happens : (c : Config) (e : Event) → is_t202 e ≡ false → breaks_by t e ≡ false → Goes o (then_ (by_event c e t))
  happens c e other stays = grind (arith, frame, true≢false, nothing, requested, none-told)
