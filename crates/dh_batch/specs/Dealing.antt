-- How files are dealt to desks like cards, and what comes of them.
use Rattle.std.specs.Prelude.{◌≡◌, ℕ, zero, suc, ◌-◌, ◌<◌, List, [], ◌∷◌, length, slice_index_or}

-- of what is dealt to n desks, what comes to the desk behind i others
abbrev pub dealt : {A : Type 0} → ℕ → ℕ → List A → List A
dealt n i [] = []
dealt n zero (x ∷ xs) = x ∷ dealt n (n - 1) xs
dealt n (suc i) (x ∷ xs) = dealt n i xs

-- a desk serves these files in turn with these replies, and goes from one state to another
abbrev pub Chain : {F D A : Type 0} → (F → D → D → A → Type 0) → D → D → List F → List A → Type 0
Chain replies before after [] [] = after ≡ before
Chain replies before after [] (r ∷ rs) = ⊥
Chain replies before after (f ∷ fs) [] = ⊥
Chain replies before after (f ∷ fs) (r ∷ rs) = (between : _) × replies f before between r × Chain replies between after fs rs

-- n desks have served these files, and these are the replies in the order of the files
abbrev pub AreServed : {F D A : Type 0} → (F → D → D → A → Type 0) → ℕ → List D → List D → List F → List A → Type 0
AreServed replies n before after files done =
    (length done ≡ length files) × ((i : ℕ) (d : _) → i < n → Chain replies (slice_index_or before i d) (slice_index_or after i d) (dealt n i files) (dealt n i done))

-- a desk has served some files, of which no reply is left
abbrev pub HasServed : {F D A : Type 0} → (F → D → D → A → Type 0) → D → D → Type 0
HasServed replies before after = (files : List _) × (done : List _) × Chain replies before after files done

-- n desks have served some files
abbrev pub HaveServed : {F D A : Type 0} → (F → D → D → A → Type 0) → ℕ → List D → List D → Type 0
HaveServed replies n before after = (i : ℕ) (d : _) → i < n → HasServed replies (slice_index_or before i d) (slice_index_or after i d)
