use Rattle.std.proofs.Common.{ℕ, List, subst}
use Rattle.adlcons.specs.Openings.{IsListUnread}
use Rattle.adlcons.proofs.two_lists.keep_one_unread.Goals as goal

pub returns : goal.returns
returns g c = record {
  which = c.args.unread.list;
  unread = subst (λ (path : List ℕ). IsListUnread g.O.Console c.args.unread.list path c.args.out.now
      c.keep_list_unread.new.out c.keep_list_unread.result) c.path_of-path.ensures c.keep_list_unread.ensures;
}
