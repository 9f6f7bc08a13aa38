-- Bytes passed without an event, over any link: none, one, a run, and one after the other.
use Rattle.std.proofs.Common.{◌≡◌, ℕ, zero, suc, ◌+◌, ◌-◌, ◌%◌, ◌^◌, ◌<◌, ◌≤◌, false, List, length, get_or, take, drop, set, sym, refl, ap, ◌∙◌, subst, add-zero, add-one, arith, length-drop, get_or-drop}
use mathlib.Core.Option.{none}
use lib.Seq.{sets, length-sets}
use Rattle.runs.specs.Runs.{between, before}
use Rattle.runs.proofs.Bytes.{part_rest}
use Rattle.runs.proofs.Before.{before_within, before-not}
use Rattle.runs.proofs.Run.{sets_more}
use Rattle.framing.specs.Link.{Link, Lent, step_on}
use Rattle.framing.specs.Passing.{Leads}
use Rattle.framing.proofs.Loop.{passed-more}

-- the states of an open frame by the counts of gathered bytes, of open wire bytes and of noise: from place i, with m bytes gathered in the store,
-- a call goes on without an event to place j, with n gathered in the store after, whatever the noise and any open count of 32 bits
module _ (L : Link) where
  pub record Gathers (opened : ℕ → ℕ → ℕ → L.State) (piece store : List ℕ) (m i : ℕ) (after : List ℕ) (n j : ℕ) : Type 0 where
    pub onward : i ≤ j
    pub within : j ≤ length piece
    pub same_length : length after ≡ length store
    pub passes : (o z : ℕ) → o < 2 ^ 32 → Leads (step_on L) piece (opened m o z, store) i (opened n ((o + (j - i)) % 2 ^ 32) z, after) j

module _ (L : Link) (piece : List ℕ) where
  pub leads_none : (c : Lent L) (i : ℕ) → i ≤ length piece → Leads (step_on L) piece c i c i
  leads_none c i h = record { onward = omega arith; within = h; same_length = refl; passes = λ c₀ p. p }

  pub leads_then : {c d e : Lent L} {i j k : ℕ} → Leads (step_on L) piece c i d j → Leads (step_on L) piece d j e k → Leads (step_on L) piece c i e k
  leads_then l m =
      record {
        onward = omega (arith, l.onward, m.onward);
        within = m.within;
        same_length = m.same_length ∙ l.same_length;
        passes = λ c₀ p. m.passes c₀ (l.passes c₀ p);
      }

  -- a byte that makes no event
  pub leads_byte : (c d : Lent L) (i : ℕ) → i < length piece → length d.1 ≡ length c.1 → step_on L c (get_or piece i 0) ≡ (d, none)
      → Leads (step_on L) piece c i d (i + 1)
  leads_byte c d i h s e =
      record {
        onward = omega arith;
        within = omega arith;
        same_length = s;
        passes = λ c₀ p. passed-more (step_on L) c₀ c piece i h p d (ap (λ r. r.0) (sym e)) (ap (λ r. r.1) e);
      }

  -- a run of them, where c k is what k of them lead to
  module _ (c : ℕ → Lent L) (i : ℕ) (long : (k : ℕ) → length (c k).1 ≡ length (c 0).1) where
    pub leads_run : (n : ℕ) → i + n ≤ length piece → ((k : ℕ) → k < n → step_on L (c k) (get_or piece (i + k) 0) ≡ (c (k + 1), none))
        → Leads (step_on L) piece (c 0) i (c n) (i + n)
    leads_run zero h quiet = rw add-zero (leads_none (c 0) i (omega arith))
    leads_run (suc n) h quiet =
        let next : i + n + 1 ≡ i + suc n = omega arith in
        leads_then (leads_run n (omega arith) (λ k l. quiet k (omega arith)))
        (subst (λ (d : Lent L). Leads (step_on L) piece (c n) (i + n) d (i + suc n)) (ap c (add-one n))
        (subst (Leads (step_on L) piece (c n) (i + n) (c (n + 1))) next
        (leads_byte (c n) (c (n + 1)) (i + n) (omega arith) (long (n + 1) ∙ sym (long n)) (quiet n (omega arith)))))

  -- what is left of the piece from place i on, as a function that is lent it has it
  abbrev left : ℕ → List ℕ
  left i = take (length piece - i) (drop i piece)

  -- the bytes before its first mark are no marks
  module _ (low high i n : ℕ) (h : i ≤ length piece) (l : n ≤ before low high (left i)) where
    before-left : n ≤ before low high (drop i piece)
    before-left = omega (arith, ap (before low high) (part_rest piece i))

    marks_within : i + n ≤ length piece
    marks_within = omega (arith, before-left, before_within low high (drop i piece), length-drop i piece)

    no_mark : (k : ℕ) → k < n → between low high (get_or piece (i + k) 0) ≡ false
    no_mark k less = ap (between low high) (sym (get_or-drop i piece k 0)) ∙ before-not low high (drop i piece) k (omega (arith, before-left))

  -- noise before the first mark, where each byte that is no mark is noise: on k is the state after k of them
  pub leads_before : (low high : ℕ) (on : ℕ → L.State) (store : List ℕ) (i n : ℕ) → i ≤ length piece → n ≤ before low high (left i)
      → ((k b : ℕ) → between low high b ≡ false → step_on L (on k, store) b ≡ ((on (k + 1), store), none))
      → Leads (step_on L) piece (on 0, store) i (on n, store) (i + n)
  leads_before low high on store i n h l quiet =
      leads_run (λ k. (on k, store)) i (λ k. refl) n (marks_within low high i n h l)
      (λ k less. quiet k (get_or piece (i + k) 0) (no_mark low high i n h l k less))

  module _ (opened : ℕ → ℕ → ℕ → L.State) where
    pub gathers_none : (store : List ℕ) (m i : ℕ) → i ≤ length piece → Gathers L opened piece store m i store m i
    gathers_none store m i h =
        record {
          onward = omega arith;
          within = h;
          same_length = refl;
          passes = λ o z l.
              let e : o ≡ (o + (i - i)) % 2 ^ 32 = omega arith in
              subst (λ (k : ℕ). Leads (step_on L) piece (opened m o z, store) i (opened m k z, store) i) e (leads_none (opened m o z, store) i h);
        }

    pub gathers_then : {store mid after : List ℕ} {m i n j p k : ℕ} → Gathers L opened piece store m i mid n j → Gathers L opened piece mid n j after p k
        → Gathers L opened piece store m i after p k
    gathers_then {store} {mid} {after} {m} {i} {n} {j} {p} {k} g h =
        record {
          onward = omega (arith, g.onward, h.onward);
          within = h.within;
          same_length = h.same_length ∙ g.same_length;
          passes = λ o z l.
              let e : ((o + (j - i)) % 2 ^ 32 + (k - j)) % 2 ^ 32 ≡ (o + (k - i)) % 2 ^ 32 = omega (arith, g.onward, h.onward) in
              subst (λ (q : ℕ). Leads (step_on L) piece (opened m o z, store) i (opened p q z, after) k) e
              (leads_then (g.passes o z l) (h.passes ((o + (j - i)) % 2 ^ 32) z (omega arith)));
        }

    -- a run of bytes that are each gathered as they are
    pub gathers_run : (store : List ℕ) (m i n : ℕ) → i + n ≤ length piece → m + n ≤ length store
        → ((k o z : ℕ) (at : List ℕ) → k < n → length at ≡ length store
        → step_on L (opened (m + k) o z, at) (get_or piece (i + k) 0) ≡ ((opened (m + k + 1) ((o + 1) % 2 ^ 32) z, set at (m + k) (get_or piece (i + k) 0)), none))
        → Gathers L opened piece store m i (sets store m (take n (drop i piece))) (m + n) (i + n)
    gathers_run store m i n h room quiet =
        record {
          onward = omega arith;
          within = h;
          same_length = length-sets store m (take n run);
          passes = λ o z l.
              let first : m + 0 ≡ m = omega arith in
              let fresh : (o + 0) % 2 ^ 32 ≡ o = omega arith in
              let last : (o + n) % 2 ^ 32 ≡ (o + (i + n - i)) % 2 ^ 32 = omega arith in
              subst (λ (q : ℕ). Leads (step_on L) piece (opened m o z, store) i (opened (m + n) q z, sets store m (take n run)) (i + n)) last
              (subst (λ (x : L.State). Leads (step_on L) piece (x, store) i (on o z n) (i + n)) (λ j. opened (first j) (fresh j) z)
              (leads_run (on o z) i (λ k. length-sets store m (take k run)) n h
              (λ k less.
              let count : m + k + 1 ≡ m + (k + 1) = omega arith in
              let held : ((o + k) % 2 ^ 32 + 1) % 2 ^ 32 ≡ (o + (k + 1)) % 2 ^ 32 = omega arith in
              quiet k ((o + k) % 2 ^ 32) z (on o z k).1 less (length-sets store m (take k run))
              ∙ (λ j. ((opened (count j) (held j) z, stored k less j), none)))));
        }
      where
        run : List ℕ
        run = drop i piece

        on : ℕ → ℕ → ℕ → Lent L
        on o z k = (opened (m + k) ((o + k) % 2 ^ 32) z, sets store m (take k run))

        stored : (k : ℕ) → k < n → set (sets store m (take k run)) (m + k) (get_or piece (i + k) 0) ≡ sets store m (take (k + 1) run)
        stored k less =
            ap (set (sets store m (take k run)) (m + k)) (sym (get_or-drop i piece k 0)) ∙ sym (sets_more store m run k 0 (rw length-drop (omega arith)))

    -- the bytes before the first mark, as far as the size allows, where each byte that is no mark is gathered as it is
    pub gathers_before : (low high : ℕ) (store after : List ℕ) (m i n : ℕ) → L.size ≤ length store → m + n ≤ L.size → i ≤ length piece
        → n ≤ before low high (left i) → after ≡ sets store m (take n (left i))
        → ((k o z b : ℕ) (at : List ℕ) → k < L.size → L.size ≤ length at → between low high b ≡ false
        → step_on L (opened k o z, at) b ≡ ((opened (k + 1) ((o + 1) % 2 ^ 32) z, set at k b), none))
        → Gathers L opened piece store m i after (m + n) (i + n)
    gathers_before low high store after m i n room most h l e quiet =
        subst (λ (x : List ℕ). Gathers L opened piece store m i x (m + n) (i + n))
        (sym (e ∙ ap (λ (x : List ℕ). sets store m (take n x)) (part_rest piece i)))
        (gathers_run store m i n (marks_within low high i n h l) (omega arith)
        (λ k o z at less same. quiet (m + k) o z (get_or piece (i + k) 0) at (omega arith) (omega arith) (no_mark low high i n h l k less)))

    -- the numbers of a state of an open frame before and after
    pub gathers_leads : (s r : L.State) (store after : List ℕ) (m o z i n j : ℕ) → o < 2 ^ 32 → s ≡ opened m o z → r ≡ opened n ((o + (j - i)) % 2 ^ 32) z
        → Gathers L opened piece store m i after n j → Leads (step_on L) piece (s, store) i (r, after) j
    gathers_leads s r store after m o z i n j l e f g =
        subst (λ (x : L.State). Leads (step_on L) piece (x, store) i (r, after) j) (sym e)
        (subst (λ (x : L.State). Leads (step_on L) piece (opened m o z, store) i (x, after) j) (sym f) (g.passes o z l))
