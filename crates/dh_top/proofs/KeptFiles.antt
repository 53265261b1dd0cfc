-- Entries of files, one file after another, that a desk has kept.
use Rattle.std.proofs.Common.{◌≡◌, ℕ, ◌≤◌, List, [], ◌∷◌, ◌++◌, Option, refl, sym, ap, ◌∙◌, subst}
use Rattle.std.proofs.lemmas.List.{append_assoc, append-nil}
use Rattle.dh_top.specs.declared.files.FileReply.{FileReply}
use Rattle.dh_top.specs.FileReplies.{AllSmall, all_pairs, pairs_of}
use Rattle.dh_top.specs.Outside.{Pair, FilesAll, FilesSome, SomeOf}
use Rattle.dh_top.proofs.Filing.{filed_both, files_both, some_both, some_more}

pairs_both : (done left : List FileReply) → all_pairs (done ++ left) ≡ all_pairs done ++ all_pairs left
pairs_both [] left = refl
pairs_both (x ∷ done) left = ap (λ ps. pairs_of x ++ ps) (pairs_both done left) ∙ sym (append_assoc (pairs_of x) (all_pairs done) (all_pairs left))

-- of those that are done, and of the one where memory was wanting
pub part_of_files : (f g : ℕ) (a b c : Option (List Pair)) (done left all : List FileReply) (x : FileReply) (rest : List FileReply) (ps : List Pair) → done ++ left ≡ all → left ≡ x ∷ rest
    → ps ≡ pairs_of x → FilesAll f g a b (all_pairs done) → (k : List Pair) × FilesSome b c ps k → (kept : List Pair) × FilesSome a c (all_pairs all) kept
part_of_files f g a b c done left all x rest ps whole split same h (k, s) = (
  h.kept ++ k,
  record {
    some = subst (SomeOf (h.kept ++ k)) pairs (some_both h.files.some (some_more (all_pairs rest) s.some));
    filed_is = filed_both a b c h.kept k h.files.filed_is s.filed_is;
  },
)
  where
    pairs : all_pairs done ++ (ps ++ all_pairs rest) ≡ all_pairs all
    pairs = ap (λ qs. all_pairs done ++ (qs ++ all_pairs rest)) same ∙ (sym (pairs_both done (x ∷ rest)) ∙ ap all_pairs (ap (λ l. done ++ l) (sym split) ∙ whole))

-- the entries of one file more are kept
pub file_done : (f g h : ℕ) (a b c : Option (List Pair)) (done left all : List FileReply) (x : FileReply) (rest : List FileReply) (ps : List Pair) → done ++ left ≡ all → left ≡ x ∷ rest
    → ps ≡ pairs_of x → g ≤ h → FilesAll f g a b (all_pairs done) → FilesAll g h b c ps → (now : List FileReply) × (now ++ rest ≡ all) × FilesAll f h a c (all_pairs now)
file_done f g h a b c done left all x rest ps whole split same up p q = (
  done ++ x ∷ [],
  append_assoc done (x ∷ []) rest ∙ ap (λ l. done ++ l) (sym split) ∙ whole,
  subst (FilesAll f h a c) pairs (files_both f g h a b c (all_pairs done) ps up p q),
)
  where
    pairs : all_pairs done ++ ps ≡ all_pairs (done ++ x ∷ [])
    pairs = ap (λ qs. all_pairs done ++ qs) (same ∙ sym (append-nil (pairs_of x))) ∙ sym (pairs_both done (x ∷ []))

pub files_done_all : (f g : ℕ) (a b : Option (List Pair)) (done left all : List FileReply) → done ++ left ≡ all → left ≡ [] → FilesAll f g a b (all_pairs done) → FilesAll f g a b (all_pairs all)
files_done_all f g a b done left all whole none h = subst (λ xs. FilesAll f g a b (all_pairs xs)) (sym (append-nil done) ∙ ap (λ l. done ++ l) (sym none) ∙ whole) h

pub small_rest : (left : List FileReply) (x : FileReply) (rest : List FileReply) → left ≡ x ∷ rest → AllSmall left → AllSmall rest
small_rest left x rest split h = (subst AllSmall split h).1
