-- Where a place in a text with its values stands in the text itself.
use Rattle.std.specs.Prelude.{ℕ, zero, suc, List, [], ◌∷◌, Option}
use Rattle.dh_syntax.specs.declared.locations.Key.{Key}
use Rattle.dh_syntax.specs.Expressions.Tree.{Row, Leaf, Node, end, kid, Name, Var, Term}
use Rattle.dh_imports.specs.Walk.{Ask, Form, Walked, Ready, Fails, Turns, Needs, importing, choosing, form_of, walks}

-- how a path in a text with its values goes on in the text itself
abbrev pub Way : Type 0
Way = List ℕ → List ℕ

-- a way into `l ? r` goes to the side that was taken
abbrev pub to_side : Walked Term → List ℕ → List ℕ → List ℕ
to_side (Ready e) left right = 0 ∷ left
to_side (Fails b) left right = 1 ∷ right
to_side (Turns j) left right = 1 ∷ right
to_side (Needs k) left right = 1 ∷ right

-- the way into the part of this number
abbrev pub way_at : ℕ → List Way → Way
way_at k [] path = []
way_at zero (way ∷ ways) path = way path
way_at (suc k) (way ∷ ways) path = way_at k ways path

-- the way into a node whose parts stand in the text as they are in the path
abbrev pub way_on : List Way → Way
way_on ways [] = []
way_on ways (k ∷ path) = k ∷ way_at k ways path

-- the way into a node, by the walks of its parts and the ways into them; it ends at an import, whose value is no part of the text
abbrev pub way_into : Form → List (Walked Term) → List Way → Way
way_into (importing i) ws ways path = []
way_into choosing (l ∷ m ∷ []) (left ∷ right ∷ []) path = to_side l (left path) (right path)
way_into form ws ways path = way_on ways path

-- where a path in an expression, or in the parts of a node, leads in the text without its values
abbrev mutual
  -- the path in the text of this key, or in the input, of the node to which a path leads in the text with its values
  pub text_path : Option Key → Ask → Term → Way
  text_path parent ask (Leaf v) path = []
  text_path parent ask (Node op r) path = way_into (form_of op) (walks parent ask r) (text_paths parent ask r) path

  pub text_paths : Option Key → Ask → Row Var Name → List Way
  text_paths parent ask end = []
  text_paths parent ask (kid b e r) = (λ path. text_path parent ask e path) ∷ text_paths parent ask r
