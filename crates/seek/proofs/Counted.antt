-- The counts of a node's children, read one after the other.
use Rattle.std.proofs.Common.{◌≡◌, ℕ, ◌+◌, ◌<◌, ◌≤◌, List, length, get_or, take}
use Rattle.std.proofs.lemmas.List.{get_or_default}
use Rattle.page.specs.declared.child.Child.{Child}
use Rattle.page.specs.Layout.{counts}
use Rattle.page.proofs.Counts.{counts_more, counts_upto}
use Rattle.tree.specs.Paths.{none}

pub counts_next : (i : ℕ) (ks : List Child) → i < length ks → counts (take (i + 1) ks) ≡ counts (take i ks) + (get_or ks i none).count
counts_next i ks l = counts_more ks i (get_or ks i none) l (λ d. get_or_default ks i none d l)

pub counts_within : (i : ℕ) (ks : List Child) → i < length ks → counts (take i ks) + (get_or ks i none).count ≤ counts ks
counts_within i ks l = counts_upto ks i (get_or ks i none) l (λ d. get_or_default ks i none d l)
