-- How large worths are, and how one step makes them of those with a step less. Assumes nothing.
--
-- In order: one node, which exists, with its action a, over numbers within the limits; all nodes; steps.
use Rattle.integers.proofs.Kit.{◌≡◌, ◌∙◌, refl, ap, sym, List, ℕ, ◌≤◌, ◌<◌, ◌+◌, ◌*◌, ◌-◌, ◌^◌, suc, zero, arith, mul-le-mul, add-one}
use Rattle.integers.proofs.Kit.{length, get_or, replicate, length-replicate, paste, ℤ, pos, nat_abs}
use lib.ListN.{get_or-replicate}
use Rattle.integers.specs.Whole.{floor_div, Within}
use Rattle.integers.specs.Cells.{padded}
use Rattle.integers.proofs.Lists.{padded-at, padded-cong, padded-length, laid_rows-none, laid_rows-at, laid_rows-cong, laid_rows-more}
use Rattle.integers.proofs.Lists.{grid-zero, grid-length, filled_within}
use Rattle.integers.proofs.Rounding.{floor-range}
use Rattle.tables.specs.declared.Counts.{Counts}
use Rattle.tables.specs.Limits.{max_states, max_actions, K}
use Rattle.tables.specs.Model.{Model, backed_up}
use Rattle.tables.specs.Storage.{entry_in, model_in}
use Rattle.tables.specs.Steps.{EntriesFit}
use Rattle.masks.specs.Masks.{masked_in}
use Rattle.masks.specs.Steps.{MaskedFit}
use Rattle.masks.proofs.Bits.{ones-covers}
use Rattle.sums.specs.Steps.{foreseen_in, backup_in, TransitionsFit, ObservationsFit, RewardsFit, ChosenFit, foreseen_limit}
use Rattle.tables.proofs.Fitting.{rows-stored}
use Rattle.sums.proofs.Regroup.{backup-regrouped, foreseen-limit, transitions-fit, observations-fit, rewards-fit}
use Rattle.plans.specs.Limits.{range}
use Rattle.plans.proofs.Agreement.{backup-cong}
use Rattle.plans.proofs.Built.{K-positive, backup-within, range-limit}
use Rattle.worths.specs.Limits.{max_nodes, max_steps}
use Rattle.worths.specs.Graph.{PlanGraph, worth_of, Sound}
use Rattle.worths.specs.Storage.{graph_in}
use Rattle.worths.specs.Steps.{GraphHeld, backed_up_of, worths_by}

-- A worth with d steps left lies within the range of level d.
-- By induction on d: a backup of worths within range d is within K × range (d + 1), and rounding keeps a range with whole ends. Qed.
worth-range : (M : Model) (G : PlanGraph) → Sound M G → (d v s : ℕ) → v < G.nodes → s < M.states → nat_abs (worth_of M G d v s) ≤ range d
unfolding worth_of backed_up
worth-range M G h zero v s lv ls = omega arith
worth-range M G h (suc d) v s lv ls =
    floor-range K K-positive (range (suc d)) _
    (backup-within M d h.valid (G.action v) (h.action_in v lv) (λ o s'. worth_of M G d (G.next v o) s')
    (λ o b s' l. worth-range M G h d (G.next v o) s' (h.next_in v lv o b) l) s ls)

-- the masks of a graph's nodes, each of which covers all states
abbrev pub node_masks : List ℕ
node_masks = replicate max_nodes (2 ^ 64 - 1)

nodes-covered : (n : ℕ) (entries : List ℤ) (v s : ℕ) → v < max_nodes → s < max_states → masked_in n node_masks entries v s ≡ entry_in n entries v s
nodes-covered n entries v s lv ls = rw (get_or-replicate max_nodes v (2 ^ 64 - 1) 0 lv, ones-covers 64 s (omega arith))

-- no row is filled yet
pub worths-none-yet : (n : ℕ) (worth : ℕ → ℕ → ℤ) → replicate (max_nodes * max_states) (pos 0) ≡ worths_by n 0 worth
worths-none-yet n worth = sym (laid_rows-none n worth (replicate (max_nodes * max_states) (pos 0)))

-- the nodes' rows lie in the array
pub worths-room : {n nodes : ℕ} → n ≤ max_states → nodes ≤ max_nodes → nodes * n ≤ max_nodes * max_states
worths-room few some = mul-le-mul some few

module _ {c : Counts} {nodes : ℕ} {T O : List ℕ} {R : List ℤ} {actions next : List ℕ} (h : GraphHeld c nodes T O R actions next) where
  abbrev model : Model
  model = model_in c T O R

  abbrev graph : PlanGraph
  graph = graph_in c.observations nodes actions next

  pub few_states : c.states ≤ max_states
  few_states = h.sound.valid.few_states

  pub room : nodes * c.states ≤ max_nodes * max_states
  room = worths-room few_states h.sound.few_nodes

  -- ---- one node, which exists, with its action a, over numbers within the limits
  module _ {before : List ℤ} {v a : ℕ} (fit : EntriesFit c.states nodes before) (exists : v < nodes) (acts : a ≡ get_or actions v 0) where
    acts-in : a < c.actions
    acts-in = rw acts (h.sound.action_in v exists)

    pub action-below : a < max_actions
    action-below = omega (arith, acts-in, h.sound.valid.few_actions)

    masked : MaskedFit c.states nodes node_masks before
    masked = record {
      few = fit.few;
      masks_long = rw (length-replicate max_nodes (2 ^ 64 - 1)) h.sound.few_nodes;
      stored = fit.stored;
      entry = λ i l s b. rw (nodes-covered c.states before i s (omega (arith, l, h.sound.few_nodes)) (omega (arith, b, few_states))) (fit.entry i l s b);
    }

    pub chosen : ChosenFit c.states c.observations node_masks before next v
    chosen = record {
      vectors = nodes;
      entries_fit = masked;
      row = omega (arith, exists, h.sound.few_nodes);
      stored = rows-stored c.observations v nodes exists h.graph.next_stored;
      vector = h.sound.next_in v exists;
    }

    pub observed : ObservationsFit c.states c.observations O a
    observed = observations-fit c T O R h.sound.valid h.tables a acts-in

    pub transitions : TransitionsFit c.states T a
    transitions = transitions-fit c T O R h.sound.valid h.tables a acts-in

    pub rewards : RewardsFit c.states R a
    rewards = rewards-fit c T O R h.sound.valid h.tables a acts-in

    module _ {f : List ℤ} (ahead : f ≡ padded (pos 0) max_states c.states (foreseen_in c.states c.observations O node_masks before next v a)) where
      pub foreseen-long : max_states ≡ length f
      foreseen-long = sym (rw ahead (padded-length (pos 0) max_states _ _ few_states))

      pub foreseen-within : Within foreseen_limit c.states f
      foreseen-within = filled_within max_states _ ahead few_states (λ s l. foreseen-limit observed chosen h.sound.valid.few_observations l)

      -- what is foreseen, backed up and rounded, is the node's row
      pub row_is : {r : List ℤ} → r ≡ padded (pos 0) max_states c.states (λ s. floor_div (backup_in c.states c.discount T R f a s) K)
          → r ≡ padded (pos 0) max_states c.states (backed_up_of c nodes T O R actions next before v)
      unfolding backed_up
      row_is e = e ∙ padded-cong (pos 0) max_states c.states _ _ (λ s l. ap (λ (z : ℤ). floor_div z K)
          (backup-regrouped c T O R node_masks before next v f a s (λ s' b. rw ahead (padded-at (pos 0) max_states _ _ s' (pos 0) b))
          ∙ backup-cong model a _ _ s (λ o k s' b. nodes-covered c.states before (graph.next v o) s'
          (omega (arith, h.sound.next_in v exists o k, h.sound.few_nodes)) (omega (arith, b, few_states))) ∙ rw acts refl))

  -- ---- all nodes
  module _ (worth : ℕ → ℕ → ℤ) where
    pub worths-long : {i : ℕ} {ws : List ℤ} → i ≤ nodes → ws ≡ worths_by c.states i worth → length ws ≡ max_nodes * max_states
    worths-long {i} few e = rw e (grid-length (pos 0) (max_nodes * max_states) i c.states worth
        (worths-room few_states (omega (arith, few, h.sound.few_nodes))))

    pub worths-more : {i : ℕ} {ws row ws' : List ℤ} → i < nodes → ws ≡ worths_by c.states i worth → row ≡ padded (pos 0) max_states c.states (worth i)
        → ws' ≡ paste ws (i * c.states) row c.states → ws' ≡ worths_by c.states (i + 1) worth
    worths-more {i} {ws} {row} l e r p =
        p ∙ rw e (laid_rows-more i c.states worth (replicate (max_nodes * max_states) (pos 0)) row (pos 0)
        (rw (length-replicate (max_nodes * max_states) (pos 0)) (worths-room few_states (omega (arith, l, h.sound.few_nodes))))
        (rw r (omega (arith, few_states, padded-length (pos 0) max_states c.states (worth i) few_states)))
        (λ x b. rw r (padded-at (pos 0) max_states c.states (worth i) x (pos 0) b)))

  -- ---- steps
  -- with no step left all worths are 0
  pub worths-none : replicate (max_nodes * max_states) (pos 0) ≡ worths_by c.states nodes (worth_of model graph 0)
  unfolding worth_of
  worths-none = sym (grid-zero (pos 0) (max_nodes * max_states) nodes c.states room)

  -- a worth is read where it is stored
  pub worth-at : (d : ℕ) {ws : List ℤ} → ws ≡ worths_by c.states nodes (worth_of model graph d)
      → (v : ℕ) → v < nodes → (s : ℕ) → s < c.states → entry_in c.states ws v s ≡ worth_of model graph d v s
  worth-at d e v l s b = rw e (laid_rows-at nodes c.states (worth_of model graph d) (replicate (max_nodes * max_states) (pos 0)) v s (pos 0) l b)

  -- worths with d steps left are within the limits, wherever they are stored
  pub worths-fit : (d : ℕ) {ws : List ℤ} → d ≤ max_steps → ws ≡ worths_by c.states nodes (worth_of model graph d) → EntriesFit c.states nodes ws
  worths-fit d {ws} few e = record {
    few = omega (arith, h.sound.few_nodes);
    stored = rw (worths-long (worth_of model graph d) (omega arith) e) room;
    entry = λ v l s b. rw (worth-at d e v l s b) (omega (arith, worth-range model graph h.sound d v s l b, range-limit d (omega arith)));
  }

  -- One step more: the backups of the worths with d steps left are the worths with d + 1.
  -- A backup reads the numbers before at next nodes, which exist, and there they are the worths. Qed.
  pub worths-step : (d : ℕ) {ws ws' : List ℤ} → ws ≡ worths_by c.states nodes (worth_of model graph d)
      → ws' ≡ worths_by c.states nodes (backed_up_of c nodes T O R actions next ws) → ws' ≡ worths_by c.states nodes (worth_of model graph (d + 1))
  unfolding backed_up worth_of
  worths-step d e e' =
      e' ∙ laid_rows-cong nodes c.states _ _ (replicate (max_nodes * max_states) (pos 0)) (λ v l s b. ap (λ (z : ℤ). floor_div z K)
      (backup-cong model (graph.action v) _ _ s (λ o k s' k'. worth-at d e (graph.next v o) (h.sound.next_in v l o k) s' k')))
      ∙ rw (add-one d) refl
