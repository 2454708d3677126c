pub mod PriorityPages
