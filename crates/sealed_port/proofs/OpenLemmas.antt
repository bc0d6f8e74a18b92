-- What is opened is a line that is sealed so.
use Rattle.std.proofs.Common.{◌≡◌, ℕ, Bool, true, false, cond, eqb, List, [], Option, Some, None, refl, sym, ap, subst, ◌∙◌}
use Rattle.std.specs.Prelude.{◌&&◌, is_none, is_some, Result, Ok, Err}
use Rattle.std.specs.Result.{result_err, result_ok}
use Rattle.std.proofs.lemmas.Bool.{eqb-true, and_parts}
use Rattle.sealed_wire.specs.Sealed.{head_of, sealed_at, tag_at}
use Rattle.sealed_wire.specs.declared.head.Head.{Head}
use Rattle.sealed_wire.specs.declared.head.Kind.{Kind}
use Rattle.sealed_wire.specs.declared.head.Kind.TheVariants.{Line, Answer, Request, Report}
use Rattle.sealed_wire.proofs.TagLemmas.{takes}
use Rattle.sealed_port.specs.Gate.{GateRecord, SealedLine, cause_at, cause_of, is_admitted, is_line, keeper_of, line_of, line_under, named, opened, ruling, ruling_on, sealed_line}
use Rattle.sealed_port.specs.Failures.{is_limited}
use Rattle.sealed_port.specs.declared.cause.Cause.{Cause}
use Rattle.sealed_port.specs.declared.cause.Cause.TheVariants.{Limited}
use Rattle.sealed_port.specs.Runs.{IsOpenedOf, line_head}
use Rattle.sealed_port.specs.declared.client.Client.{Client}

abbrev present : {A : Type 0} → A → Option A
present x = Some x

some_is : {A : Type 0} (x y : A) → present x ≡ present y → x ≡ y
some_is x y e = cc

kind_is_line : (kind : Kind) → is_line kind ≡ true → kind ≡ Line
kind_is_line Line e = refl
kind_is_line Answer e = absurd cc
kind_is_line Request e = absurd cc
kind_is_line Report e = absurd cc

abbrev fine : SealedLine → Result SealedLine Cause
fine line = Ok line

abbrev ruled : Bool → SealedLine → Cause → Result SealedLine Cause
ruled b line cause = cond b (Ok line) (Err cause)

ok_is : (x y : SealedLine) → fine x ≡ fine y → x ≡ y
ok_is x y e = cc

-- what a line is read of
record IsReadOf (gate : GateRecord) (bytes : List ℕ) (line : SealedLine) : Type 0 where
  owner : Client
  is_owner : named line.client gate.clients ≡ Some owner
  reads : sealed_at owner.key [] bytes ≡ Some (line_head gate.node line, line.line)
  tag_is : line.tag ≡ tag_at bytes

-- a head of a line for the node is what its fields are
head_is : (head : Head) (node : ℕ) → head.kind ≡ Line → head.node ≡ node → head ≡ record { kind = Line; client = head.client; node = node; moment = head.moment }
head_is head node k n = rw (sym k, sym n) refl

-- the keeper of a head
record IsKeeperOf (gate : GateRecord) (owner : Client) (head : Head) : Type 0 where
  is_line : head.kind ≡ Line
  for_node : head.node ≡ gate.node
  is_owner : named head.client gate.clients ≡ Some owner

keeper_is : (gate : GateRecord) (owner : Client) (head : Head) → keeper_of gate (Some head) ≡ Some owner → IsKeeperOf gate owner head
keeper_is gate owner head e = go (is_line head.kind && eqb head.node gate.node) refl e
  where
    go : (b : Bool) → (is_line head.kind && eqb head.node gate.node) ≡ b → cond b (named head.client gate.clients) None ≡ Some owner → IsKeeperOf gate owner head
    go true is found =
        let parts = and_parts (is_line head.kind) (eqb head.node gate.node) is in
        record {
          is_line = kind_is_line head.kind parts.0;
          for_node = eqb-true head.node gate.node parts.1;
          is_owner = found;
        }
    go false is found = absurd cc

sealed_is : (gate : GateRecord) (bytes : List ℕ) (line : SealedLine) → sealed_line gate bytes ≡ Ok line → IsReadOf gate bytes line
sealed_is gate bytes line e = by_head (head_of bytes) refl e
  where
    by_read : (owner : Client) (named_head : Head) (read : Option (Head × List ℕ)) → head_of bytes ≡ Some named_head → IsKeeperOf gate owner named_head
        → sealed_at owner.key [] bytes ≡ read → line_of (tag_at bytes) read ≡ Ok line → IsReadOf gate bytes line
    by_read owner named_head None names keeper is found = absurd cc
    by_read owner named_head (Some (head, text)) names keeper is found =
        let same : named_head ≡ head = some_is named_head head (sym names ∙ (takes owner.key [] bytes head text is).head_is) in
        let so : IsKeeperOf gate owner head = subst (IsKeeperOf gate owner) same keeper in
        let line_is : record { client = head.client; moment = head.moment; tag = tag_at bytes; line = text } ≡ line = ok_is _ line found in
        subst (IsReadOf gate bytes) line_is (record {
          owner = owner;
          is_owner = so.is_owner;
          reads = is ∙ ap (λ (h : Head). present (h, text)) (head_is head gate.node so.is_line so.for_node);
          tag_is = refl;
        })

    by_keeper : (named_head : Head) (keeper : Option Client) → head_of bytes ≡ Some named_head → keeper_of gate (Some named_head) ≡ keeper
        → line_under bytes keeper ≡ Ok line → IsReadOf gate bytes line
    by_keeper named_head None names is found = absurd cc
    by_keeper named_head (Some owner) names is found =
        by_read owner named_head (sealed_at owner.key [] bytes) names (keeper_is gate owner named_head is) refl found

    by_head : (named_head : Option Head) → head_of bytes ≡ named_head → line_under bytes (keeper_of gate named_head) ≡ Ok line → IsReadOf gate bytes line
    by_head None names found = absurd cc
    by_head (Some named_head) names found = by_keeper named_head (keeper_of gate (Some named_head)) names refl found

pub opened_law : (gate : GateRecord) (now : Option ℕ) (bytes : List ℕ) (line : SealedLine) → opened gate now bytes ≡ Some line → IsOpenedOf gate now bytes line
opened_law gate now bytes line e = from now (sealed_line gate bytes) refl e
  where
    go : (second : ℕ) (limited b : Bool) (one : SealedLine) → sealed_line gate bytes ≡ Ok one
        → is_limited gate.failures second one.client ≡ limited → is_admitted gate second one ≡ b
        → result_ok (cond limited (Err Limited) (ruled b one (cause_at gate second one))) ≡ Some line
        → IsOpenedOf gate (Some second) bytes line
    go second true b one is limited admitted found = absurd cc
    go second false false one is limited admitted found = absurd cc
    go second false true one is limited admitted found =
        let same = some_is one line found in
        let read = sealed_is gate bytes line (is ∙ ap fine same) in
        record {
          owner = read.owner;
          is_owner = read.is_owner;
          reads = read.reads;
          tag_is = read.tag_is;
          second = second;
          told = refl;
          admitted = subst (λ (l : SealedLine). is_admitted gate second l ≡ true) same admitted;
          unlimited = subst (λ (l : SealedLine). is_limited gate.failures second l.client ≡ false) same limited;
        }

    from : (now : Option ℕ) (r : Result SealedLine Cause) → sealed_line gate bytes ≡ r → result_ok (ruling_on gate now r) ≡ Some line → IsOpenedOf gate now bytes line
    from now (Err cause) is found = absurd cc
    from None (Ok one) is found = absurd cc
    from (Some second) (Ok one) is found =
        go second (is_limited gate.failures second one.client) (is_admitted gate second one) one is refl refl found

-- exactly what a gate doesn't open has a cause
pub cause_law : (gate : GateRecord) (now : Option ℕ) (bytes : List ℕ) → is_none (opened gate now bytes) ≡ is_some (cause_of gate now bytes)
cause_law gate now bytes = from (ruling gate now bytes)
  where
    from : (r : Result SealedLine Cause) → is_none (result_ok r) ≡ is_some (result_err r)
    from (Ok line) = refl
    from (Err cause) = refl
