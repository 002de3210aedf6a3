-- An accepted period keeps the laws, under either method and any sharing rule.
use Rattle.std.proofs.Common.{◌≡◌, ℕ, ◌+◌, ◌<◌, ◌≤◌, List, Some, None, Option, sym, subst, arith}
use Rattle.std.proofs.lemmas.Bool.Decides.{nat_tests}
use Rattle.sharing.specs.Rule.{Shares, Fair}
use Rattle.house.specs.declared.method.Method.{Method}
use Rattle.house.specs.declared.method.Method.TheVariants.{Remainder, Stated}
use Rattle.billing.specs.declared.counting.CountedRoom.{CountedRoom}
use Rattle.billing.specs.Counting.{plain_area, read_sum, pipe_sum}
use Rattle.billing.specs.Remainder.{unread, claiming_area}
use Rattle.billing.specs.Stated.{rest}
use Rattle.billing.specs.Period.{Bill, given, unworkable, bills, Lawful, Billable, Laws}
use Rattle.billing.proofs.RoomLaws.{plain_counted}
use Rattle.billing.proofs.RemainderLaws.{remainder_laws}
use Rattle.billing.proofs.StatedLaws.{stated_laws}

-- what an accepted period under Remainder has
pub record Unread_claimed (common : ℕ) (rooms : List CountedRoom) (total : ℕ) : Type 0 where
  pub within : read_sum rooms ≤ total
  pub claimed : 0 < unread rooms total → 0 < claiming_area common rooms

pub unread_claimed : (common : ℕ) (rooms : List CountedRoom) (total : ℕ) (q : Option ℕ) → unworkable (Remainder common) rooms total q ≡ None → Unread_claimed common rooms total
unread_claimed common rooms total q e = record {
  within = grind (arith, nat_tests);
  claimed = λ some. grind (arith, nat_tests);
}

-- and under Stated
pub record Rest_claimed (rooms : List CountedRoom) (total : ℕ) (q : Option ℕ) : Type 0 where
  pub within : read_sum rooms + pipe_sum rooms + given q ≤ total
  pub claimed : 0 < rest rooms total q → 0 < plain_area rooms

pub rest_claimed : (percent : ℕ) (rooms : List CountedRoom) (total : ℕ) (q : Option ℕ) → Lawful (Stated percent) rooms → unworkable (Stated percent) rooms total q ≡ None → Rest_claimed rooms total q
rest_claimed percent rooms total (Some q) lawful e = record {
  within = grind (arith, nat_tests);
  claimed = λ some. let counted = plain_counted rooms lawful.areas in grind (arith, nat_tests);
}
rest_claimed percent rooms total None lawful e = record {
  within = grind (arith, nat_tests);
  claimed = λ some. absurd (omega arith);
}

pub period_laws : (shares : Shares) → Fair shares → (method : Method) (rooms : List CountedRoom) → Lawful method rooms → (total : ℕ) (q : Option ℕ) → unworkable method rooms total q ≡ None → Laws method rooms total q (bills shares method rooms total q)
period_laws shares fair (Remainder common) rooms lawful total q accepted =
    let facts = unread_claimed common rooms total q accepted in
    remainder_laws common rooms total facts.claimed shares fair q lawful facts.within
period_laws shares fair (Stated percent) rooms lawful total q accepted =
    let facts = rest_claimed percent rooms total q lawful accepted in
    stated_laws percent rooms total q lawful.percent shares fair facts.claimed lawful facts.within

module _ (shares : Shares) (method : Method) (rooms : List CountedRoom) (total : ℕ) (q : Option ℕ) where
  pub bills_lawful : (bs : List Bill) → bs ≡ bills shares method rooms total q → Fair shares → Billable method rooms total q → Laws method rooms total q bs
  bills_lawful bs e fair b = subst (Laws method rooms total q) (sym e) (period_laws shares fair method rooms b.lawful total q b.accepted)
