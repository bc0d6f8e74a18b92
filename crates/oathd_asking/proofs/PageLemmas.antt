-- The pages of a report, one after the other.
use Rattle.std.proofs.Common.{◌≡◌, ℕ, zero, suc, ◌+◌, ◌<◌, ◌≤◌, List, [], ◌∷◌, ◌++◌, length, Option, None, Some, refl, sym, ap, subst, ◌∙◌, arith, append_assoc, append-nil}
use Rattle.std.specs.Prelude.{IfSome}
use Rattle.std.specs.List.{concat}
use Rattle.clients_file.specs.declared.clients.OperatorEntry.{OperatorEntry}
use Rattle.operator_text.specs.Page.{AreLines, PageRecord}
use Rattle.operator_text.specs.Pages.{following, joined, lines_in, next_in, page_from, pages_from}
use Rattle.operator_text.specs.Reading.{page_at}
use Rattle.operator_text.specs.declared.request.Report.{Report}
use Rattle.operator_text.proofs.PagesLemmas.{whole_from}
use Rattle.oathd_asking.specs.Report.{ArePages, Follow, GoesOn, IsReportText, Tells, page_request}
use Rattle.oathd_asking.specs.Sent.{IsReportOn}

module _ (operator : OperatorEntry) (node : ℕ) (report : Report) where
  -- a text with the pages from a line on is a report's; without a further line it is one itself
  abbrev pub IsFront : List ℕ → Option ℕ → Type 0
  IsFront text None = IsReportText operator node report text
  IsFront text (Some from) =
      (pages : List (List ℕ)) → ArePages operator node report pages from → IsReportText operator node report (text ++ joined pages)

  -- the text after one more page
  pub front_more : (text new page : List ℕ) (from : ℕ) (next : Option ℕ) → IsFront text (Some from)
      → IsReportOn operator node (page_request report from) page
      → page_at page ≡ Some (record { lines = lines_in (page_at page); next = next }) → IfSome next (λ n. from < n)
      → new ≡ text ++ lines_in (page_at page) → IsFront new next
  front_more text new page from None front on read onward is =
      let last : Follow (ArePages operator node report []) [] from (page_at page) =
      subst (Follow (ArePages operator node report []) [] from) (sym read) refl in
      subst (IsReportText operator node report) (sym (is ∙ ap (λ l. text ++ l) (sym (append-nil (lines_in (page_at page)))))) (front (page ∷ []) (on, last))
  front_more text new page from (Some next) front on read onward is = λ pages are.
      let more : Follow (ArePages operator node report pages) pages from (page_at page) =
      subst (Follow (ArePages operator node report pages) pages from) (sym read) (onward, are) in
      subst (IsReportText operator node report)
      (sym (append_assoc text (lines_in (page_at page)) (joined pages)) ∙ ap (λ l. l ++ joined pages) (sym is)) (front (page ∷ pages) (on, more))

  -- the text of the first page
  pub front_first : (new page : List ℕ) (next : Option ℕ) → IsReportOn operator node (page_request report 0) page
      → page_at page ≡ Some (record { lines = lines_in (page_at page); next = next }) → IfSome next (λ n. 0 < n)
      → new ≡ lines_in (page_at page) → IsFront new next
  front_first new page next on read onward is =
      front_more [] new page 0 next (λ pages are. record { pages = pages; are = are; is = refl }) on read onward is

  -- ---- The pages of a node that tells lines

  goes_on : (lines pages : List (List ℕ)) (fuel from : ℕ) (next : Option ℕ) → GoesOn (ArePages operator node report pages) pages from next
      → ((n : ℕ) → ArePages operator node report pages n → pages ≡ pages_from fuel lines n)
      → pages ≡ following (pages_from fuel lines) next
  goes_on lines pages fuel from None goes more = goes
  goes_on lines pages fuel from (Some next) goes more = more next goes.1

  follows : (lines pages : List (List ℕ)) (fuel from : ℕ) (read : Option PageRecord) → Follow (ArePages operator node report pages) pages from read
      → ((n : ℕ) → ArePages operator node report pages n → pages ≡ pages_from fuel lines n)
      → pages ≡ following (pages_from fuel lines) (next_in read)
  follows lines pages fuel from None follow more = absurd follow
  follows lines pages fuel from (Some page) follow more = goes_on lines pages fuel from page.next follow more

  pages_told : (lines : List (List ℕ)) → Tells operator node report lines → (pages : List (List ℕ)) (fuel from : ℕ) → length pages ≤ fuel
      → ArePages operator node report pages from → pages ≡ pages_from fuel lines from
  pages_told lines tells [] fuel from few are = absurd are
  pages_told lines tells (page ∷ pages) zero from few are = absurd (omega (arith, few))
  pages_told lines tells (page ∷ pages) (suc fuel) from few are =
      let same : page ≡ page_from lines from = tells from page are.0 in
      let rest : pages ≡ following (pages_from fuel lines) (next_in (page_at page)) =
      follows lines pages fuel from (page_at page) are.1 (λ n more. pages_told lines tells pages fuel n (omega (arith, few)) more) in
      let so : pages ≡ following (pages_from fuel lines) (next_in (page_at (page_from lines from))) =
      subst (λ (p : List ℕ). pages ≡ following (pages_from fuel lines) (next_in (page_at p))) same rest in
      ap (λ (p : List ℕ). p ∷ pages) same ∙ ap (λ (ps : List (List ℕ)). page_from lines from ∷ ps) so

  pub whole : (lines : List (List ℕ)) (text : List ℕ) → AreLines lines → Tells operator node report lines
      → IsReportText operator node report text → text ≡ concat lines
  whole lines text are tells of =
      let fuel = length of.pages + suc (length lines) in
      of.is ∙ ap joined (pages_told lines tells of.pages fuel 0 (omega arith) of.are)
      ∙ (whole_from fuel lines 0 are (omega arith) (omega arith)).lines

  -- ---- What is no report

  twice_so : (page lines : List ℕ) (pages : List (List ℕ)) (next : Option ℕ) → page_at page ≡ Some (record { lines = lines; next = next })
      → GoesOn (ArePages operator node report (page ∷ pages)) (page ∷ pages) 0 next → ⊥
  twice_so page lines pages None read goes = absurd cc
  twice_so page lines pages (Some n) read goes =
      let again = subst (Follow (ArePages operator node report pages) pages n) read goes.1.1 in omega (arith, again.0)

  twice_at : (page : List ℕ) (pages : List (List ℕ)) (read : Option PageRecord) → page_at page ≡ read
      → Follow (ArePages operator node report (page ∷ pages)) (page ∷ pages) 0 read → ⊥
  twice_at page pages None is follow = follow
  twice_at page pages (Some found) is follow = twice_so page found.lines pages found.next is follow

  pub twice : (page : List ℕ) (pages : List (List ℕ)) → ArePages operator node report (page ∷ page ∷ pages) 0 → ⊥
  twice page pages are = twice_at page pages (page_at page) refl are.1

  pub cut_short : (page lines : List ℕ) (n : ℕ) → page_at page ≡ Some (record { lines = lines; next = Some n })
      → ArePages operator node report (page ∷ []) 0 → ⊥
  cut_short page lines n read are = (subst (Follow (ArePages operator node report []) [] 0) read are.1).1

  pub after_last : (first second lines : List ℕ) → page_at first ≡ Some (record { lines = lines; next = None })
      → ArePages operator node report (first ∷ second ∷ []) 0 → ⊥
  after_last first second lines read are =
      let none : second ∷ [] ≡ [] = subst (Follow (ArePages operator node report (second ∷ [])) (second ∷ []) 0) read are.1 in absurd cc
