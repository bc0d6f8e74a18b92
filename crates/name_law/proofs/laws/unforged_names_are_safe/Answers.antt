-- Each is the promise of books, of the history that is genuine.
use Rattle.name_law.proofs.laws.unforged_names_are_safe.Goals as goal

pub returns-clause-single_use : goal.returns-clause-single_use
returns-clause-single_use c = λ names setting history sized h. c.books_are_safe.ensures.single_use setting history (c.unforged_names_are_genuine.ensures names setting history sized h)

pub returns-clause-in_order : goal.returns-clause-in_order
returns-clause-in_order c = λ names setting history sized h. c.books_are_safe.ensures.in_order setting history (c.unforged_names_are_genuine.ensures names setting history sized h)

pub returns-clause-majority : goal.returns-clause-majority
returns-clause-majority c = λ names setting history sized h. c.books_are_safe.ensures.majority setting history (c.unforged_names_are_genuine.ensures names setting history sized h)

pub returns-clause-told : goal.returns-clause-told
returns-clause-told c = λ names setting history sized h. c.books_are_safe.ensures.told setting history (c.unforged_names_are_genuine.ensures names setting history sized h)

pub returns-clause-justified : goal.returns-clause-justified
returns-clause-justified c = λ names setting history sized h. c.books_are_safe.ensures.justified setting history (c.unforged_names_are_genuine.ensures names setting history sized h)

pub returns-clause-spaced : goal.returns-clause-spaced
returns-clause-spaced c = λ names setting history node token sized h. c.books_are_safe.ensures.spaced setting history node token (c.unforged_names_are_genuine.ensures names setting history sized h)

pub returns-clause-answered : goal.returns-clause-answered
returns-clause-answered c = λ names setting history sized h. c.books_are_safe.ensures.answered setting history (c.unforged_names_are_genuine.ensures names setting history sized h)
