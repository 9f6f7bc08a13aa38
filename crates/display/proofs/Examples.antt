-- Document 000's second example: the frames are worked out by the checker, the rest follows from the laws.
use Prim.Native.Nat.{ℕ, ◌≤◌}
use mathlib.Core.Path.{◌≡◌, refl, ap, sym, ◌∙◌}
use mathlib.Core.Bool.{true}
use mathlib.Core.List.{List, [], ◌∷◌, sum}
use native.Mathlib.Omega.{arith}
use lib.ListN.{length}
use Rattle.runs.specs.Runs.{over}
use Rattle.runs.proofs.Run.{sets_over}
use Rattle.framing.specs.Answer.{Outcome}
use Rattle.framing.proofs.Stored.{stored_done}
use Rattle.packing.specs.Packed.{last_place, tops_after, tops_of, packed_group, packed_groups, packed}
use Rattle.decimal.specs.Decimal.{decimal, decimal_of}
use Rattle.pcs.specs.Frame.{ok, frame}
use Rattle.pcs.specs.Rules.{size}
use Rattle.display.specs.Profile.{message_of, order_frame}
use Rattle.display.specs.Reading.{reading}
use Rattle.display.specs.End.{shown_of, fresh_display, showing, answer_to, answer, answering, served, received, takes}
use Rattle.display.specs.Claims.{printed_order, printed_answer, order12345, Printed}
use Rattle.display.specs.declared.Order.{Order}
use Rattle.display.proofs.Orders.{order-reads}
use Rattle.display.proofs.Served.{Doing, eleven}

printed_answer_lem : frame (answer_to order12345) ≡ printed_answer
unfolding sum packed packed_groups
printed_answer_lem = refl

printed_order_lem : order_frame order12345 ≡ printed_order
unfolding sum last_place tops_after tops_of packed_group packed_groups packed decimal decimal_of
printed_order_lem = refl

places : (showing (fresh_display 101) order12345).places ≡ 51 ∷ 52 ∷ 53 ∷ []
unfolding shown_of decimal decimal_of
places = refl

sends : ok (message_of order12345) ≡ true
unfolding decimal decimal_of
sends = refl

module _ (store memory : List ℕ) (room : size ≤ length store) (fits : 11 ≤ length memory) where
  done_so : received (fresh_display 101) (reading printed_order store).0 memory ≡ served (fresh_display 101) order12345 memory
  done_so =
      ap (λ (r : List ℕ). received (fresh_display 101) (reading r store).0 memory) (sym printed_order_lem)
      ∙ ap (λ (x : Outcome Order). received (fresh_display 101) x memory) (order-reads order12345 store (omega arith) sends room)

  replies : (takes (fresh_display 101) printed_order store memory).0 ≡ (answer 11, showing (fresh_display 101) order12345)
  replies =
      ap (λ (x : Doing). x.0) done_so
      ∙ ap (λ (x : Outcome ℕ × List ℕ). answering (fresh_display 101) order12345 x.0)
      (stored_done (frame (answer_to order12345)) memory 0 (omega (arith, eleven order12345)))
      ∙ ap (λ (k : ℕ). (answer k, showing (fresh_display 101) order12345)) (eleven order12345)

  leaves : (takes (fresh_display 101) printed_order store memory).2 ≡ over printed_answer memory
  leaves =
      ap (λ (x : Doing). x.1) done_so
      ∙ ap (λ (x : Outcome ℕ × List ℕ). x.1) (stored_done (frame (answer_to order12345)) memory 0 (omega (arith, eleven order12345)))
      ∙ sets_over (frame (answer_to order12345)) memory (omega (arith, eleven order12345))
      ∙ ap (λ (l : List ℕ). over l memory) printed_answer_lem

pub printed : Printed
printed =
    record {
      written = printed_order_lem;
      taken = λ store memory room fits. (replies store memory room fits, leaves store memory room fits);
      shown = places;
    }
