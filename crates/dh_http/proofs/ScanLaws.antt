-- What looking through the window for ends of lines keeps.
use Rattle.std.proofs.Common.{◌≡◌, ℕ, ◌<◌, ◌≤◌, ◌-◌, List, [], length, take, Bool, true, false, sym, arith, subst}
use Rattle.std.proofs.lemmas.List.{length-take}
use Rattle.dh_http.specs.Bodies.{most_line}
use Rattle.dh_http.specs.Reading.{Place, Took, Fits, Grown}
use Rattle.dh_http.specs.Scanning.{Gathered}
use Rattle.dh_http.proofs.Places.{Took_none, Took_then}

-- nothing was read, and the window was looked through up to a place
pub record HasScanned (first now : Place) (from seen : ℕ) : Type 0 where
  pub took : Took first now []
  pub back : from ≤ seen
  pub within : seen ≤ length (take most_line now.inbox.bytes)

pub scanned_none : (p : Place) (seen : ℕ) → Fits p.left p.inbox → seen ≤ length (take most_line p.inbox.bytes) → HasScanned p p seen seen
scanned_none p seen fits h = record { took = Took_none p fits; back = omega arith; within = h }

pub scanned_begin : (p : Place) (seen : ℕ) → Fits p.left p.inbox → seen ≡ 0 → HasScanned p p 0 seen
scanned_begin p seen fits e = record { took = Took_none p fits; back = omega arith; within = omega (arith, e) }

-- more came into the window
pub scanned_more : (a b c : Place) (from mid seen : ℕ) → HasScanned a b from mid → mid ≤ seen → seen ≤ length (take most_line b.inbox.bytes)
    → Grown b c true → HasScanned a c from seen
scanned_more a b c from mid seen p h w q = record {
  took = Took_then a b c [] [] p.took q.0;
  back = omega (arith, p.back, h);
  within = omega (arith, w, q.2, length-take most_line b.inbox.bytes, length-take most_line c.inbox.bytes);
}

-- an end was found
pub gathered_end : (a b : Place) (from mid seen : ℕ) → HasScanned a b from mid → mid < seen → seen ≤ length (take most_line b.inbox.bytes)
    → Gathered a b from seen true
gathered_end a b from mid seen p h w = record { took = p.took; within = w; came = omega (arith, p.back, h) }

-- none was, and no more comes
pub gathered_all : (a b c : Place) (from mid seen : ℕ) → HasScanned a b from mid → seen ≤ length (take most_line b.inbox.bytes) → Grown b c false
    → Gathered a c from seen false
gathered_all a b c from mid seen p w q = record {
  took = Took_then a b c [] [] p.took q.0;
  within = subst (λ t. seen ≤ length (take most_line t)) (sym q.1) w;
  came = q.2;
}

-- one end after the other
pub scanned_then : (a b c : Place) (from mid seen : ℕ) (more : Bool) → HasScanned a b from mid → mid ≤ seen → Gathered b c mid seen more → HasScanned a c from seen
scanned_then a b c from mid seen more p h q = record { took = Took_then a b c [] [] p.took q.took; back = omega (arith, p.back, h); within = q.within }

-- less is left to look through
pub scans_less : (bytes : List ℕ) (from to : ℕ) → from < to → to ≤ length (take most_line bytes) → most_line - to < most_line - from
scans_less bytes from to h w = omega (arith, h, w, length-take most_line bytes)
