use Rattle.std.proofs.Common.{ℕ, List, ◌++◌, ap, ◌∙◌}
use Rattle.cluster_file.specs.Key.{print_of}
use Rattle.cluster_file.specs.Rows.{in_order, macs_text}
use Rattle.cluster_file.proofs.OrderLemmas.{sorted_is}
use Rattle.cluster_file.proofs.rows.book_print.Goals as goal

pub returns-in-Ok : goal.returns-in-Ok
returns-in-Ok c =
    let key = c.args.shared_key.now in
    let sorted = sorted_is c.in_ok-macs.macs.items c.sort_unstable.new.self.items c.sort_unstable.ensures.permutation c.sort_unstable.ensures.sorted in
    let macs = c.deref.ensures.value ∙ sorted ∙ ap in_order c.in_ok-macs.ensures in
    let text = c.deref-in-Ok.ensures.value ∙ c.in-Ok.ensures ∙ ap (λ (front : List ℕ). front ++ macs_text c.deref.result.now) c.new-text.ensures.items in
    c.print_of.ensures ∙ ap (print_of key) text ∙ ap (λ (ordered : List (List ℕ)). print_of key (macs_text ordered)) macs
