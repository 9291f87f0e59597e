mod Filters
mod GoalLists
mod MarkLists
mod HeldOrders
mod Tables
