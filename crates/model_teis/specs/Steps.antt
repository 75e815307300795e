-- Steps of an event, one after another.

infixl 40 ◌then◌
abbrev pub ◌then◌ : {A : Type 0} → (A → A) → (A → A) → A → A
(first then second) c = second (first c)

abbrev pub nothing_happens : {A : Type 0} → A → A
nothing_happens c = c
