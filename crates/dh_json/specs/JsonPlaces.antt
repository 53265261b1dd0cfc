-- Places of an expression as its JSON value sees them: their order, and which of them the cases name.
use Rattle.std.specs.Prelude.{◌≡◌, ◌<◌, ◌⊎◌, ℕ, zero, suc, List, [], ◌∷◌, Option, Some, None, ⊤}
use Rattle.dh_syntax.specs.Expressions.Tree.{Tree, Row, Leaf, Node, kid, end}
use Rattle.dh_json.specs.JsonValue.{Case, Whole, Elements, Fields, Part, NoCase, case_of}

-- in pre-order the first place comes before the second: it stands above it, or where their ways part it goes to an earlier part
abbrev pub IsBefore : List ℕ → List ℕ → Type 0
IsBefore p [] = ⊥
IsBefore [] (k ∷ q) = ⊤
IsBefore (j ∷ p) (k ∷ q) = (j < k) ⊎ ((j ≡ k) × IsBefore p q)

-- the value of a node of this case is made of that of the part with this number
abbrev pub Names : Case → ℕ → Type 0
Names (Whole d) k = ⊥
Names Elements k = ⊤
Names (Fields xs) k = ⊤
Names (Part i) k = k ≡ i
Names NoCase k = ⊥

module _ {A B : Type 0} where
  -- the part with this number
  abbrev pub part : ℕ → Row A B → Option (Tree A B)
  part n end = None
  part zero (kid b e r) = Some e
  part (suc n) (kid b e r) = part n r

  -- it is a variable, or a node that fits no case
  abbrev pub FitsNone : Tree A B → Type 0
  FitsNone (Leaf a) = ⊤
  FitsNone (Node op r) = case_of op r ≡ NoCase

  -- t stands at the place of e, and each part on the way to it is one that its node's case names
  abbrev pub Reaches : Tree A B → List ℕ → Tree A B → Type 0
  Reaches e [] t = e ≡ t
  Reaches (Leaf a) (k ∷ q) t = ⊥
  Reaches (Node op r) (k ∷ q) t = (u : Tree A B) × (part k r ≡ Some u) × Names (case_of op r) k × Reaches u q t

  -- the first place, in pre-order and among those that the cases name, where no case fits
  pub record IsFirst (e : Tree A B) (p : List ℕ) : Type 0 where
    pub none : (t : Tree A B) × Reaches e p t × FitsNone t
    pub first : (q : List ℕ) (t : Tree A B) → IsBefore q p → Reaches e q t → FitsNone t → ⊥
