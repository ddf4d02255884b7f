use Rattle.roofing.proofs.Prelude.{◌≡◌, ◌≤◌, ◌<◌, ◌-◌, sym, arith, rules, pos, length}
use Rattle.integers.proofs.Kit.{◌∙◌, ◌+◌, ap, ℕ, List, ℤ, get_or, take, drop, to_z-of_z}
use lib.ListN.{length-take, length-drop}
use lib.Seq.{get_or-take, get_or-drop}
use Rattle.integers.proofs.Searches.{largest-first}
use Rattle.integers.specs.Whole.{ceil_div}
use Rattle.integers.proofs.Words.{answer, back}
use Rattle.tables.specs.Limits.{K}
use Rattle.plans.specs.Rows.{highest}
use Rattle.plans.proofs.Rows.{highest-later, highest-same}
use Rattle.roofing.specs.Steps.{least_from}
use Rattle.roofing.proofs.least_of.Goals as goal

-- the backups after the first: how many they are, and one of them
module _ (backups : List ℤ) (actions : ℕ) where
  few : actions ≤ length backups → length (take (actions - 1) (drop 1 backups)) ≡ actions - 1
  few h = omega (arith, length-take (actions - 1) (drop 1 backups), length-drop 1 backups)

  next : (i : ℕ) → i < actions - 1 → get_or (take (actions - 1) (drop 1 backups)) i (pos 0) ≡ get_or backups (i + 1) (pos 0)
  next i h =
      get_or-take (actions - 1) (drop 1 backups) i (pos 0) h ∙ get_or-drop 1 backups i (pos 0) ∙ ap (λ (k : ℕ). get_or backups k (pos 0)) (omega arith)

pub loop-backup-init : goal.loop-backup-init
unfolding K
loop-backup-init c =
    let h = c.ceil_div-most.ensures in
    let q = least_from c.args.backups.now in
    let e : c.ceil_div-most.result ≡ q 0 = grind (arith, to_z-of_z) in
    answer c.ceil_div-most.type_inv (e ∙ ap q (sym (largest-first _)))

pub loop-backup-preserved : goal.loop-backup-preserved
unfolding highest K
loop-backup-preserved c =
    let n = c.args.actions in
    let backups = c.args.backups.now in
    let i = c.loop-backup.backup-index in
    let f = least_from backups in
    let inside : i < n - 1 = omega (arith, few backups n c.requires.1) in
    let read = back (get_or (take (n - 1) (drop 1 backups)) i (pos 0)) (search rules) ∙ next backups n i inside in
    let here = answer c.ceil_div-here.type_inv (c.ceil_div-here.ensures ∙ ap (λ (z : ℤ). ceil_div z K) read) in
    let later = highest-later f (i + 1) c.loop-backup.invariant here in
    let same = highest-same f (i + 1) c.loop-backup.invariant here in
    grind (arith, later, same)

pub returns : goal.returns
returns c =
    let e : c.loop-backup.backup-index + 1 ≡ c.args.actions = omega (arith, few c.args.backups.now c.args.actions c.requires.1, c.requires.0) in
    rw e at c.loop-backup.invariant
